-- Addresses in words.
use Rattle.std.specs.Prelude.{ℕ, Bool, false, ◌&&◌, ◌||◌, ◌==◌, nat_eq, nat_le, List, length, codes}
use Rattle.std.specs.Char.{is_ascii_hexdigit}
use Rattle.std.specs.List.{list_all, list_any, starts_with}
use Rattle.std.specs.Option.{option_map_or}
use Rattle.std.specs.Str.{bytes_eq}
use Rattle.silt_wire.specs.Numbers.{number_of}

-- a digit of an address, a point or a colon
abbrev pub is_address_byte : ℕ → Bool
is_address_byte byte = is_ascii_hexdigit byte || (byte == 46 || byte == 58)

-- a text that has such bytes alone, and at least one
abbrev pub is_address : List ℕ → Bool
is_address text = nat_le 1 (length text) && list_all is_address_byte text

-- an address that only this machine reaches: it begins with `127.`, or is `::1`
abbrev pub is_loopback : List ℕ → Bool
is_loopback text = bytes_eq text (codes "::1") || starts_with nat_eq text (codes "127.")

-- a byte of an address and a port: a byte of an address, or a bracket
abbrev pub is_socket_byte : ℕ → Bool
is_socket_byte byte = is_address_byte byte || (byte == 91 || byte == 93)

-- a text that has such bytes alone, and a colon
abbrev pub is_socket : List ℕ → Bool
is_socket text = list_any (λ byte. byte == 58) text && list_all is_socket_byte text

-- a text that spells a port to connect to: 1 to 65,535
abbrev pub is_port : List ℕ → Bool
is_port text = option_map_or (λ port. nat_le 1 port && nat_le port 65535) (number_of text) false

-- where a server is: a port of this machine, or an address and a port
abbrev pub is_contact : List ℕ → Bool
is_contact text = is_port text || is_socket text
