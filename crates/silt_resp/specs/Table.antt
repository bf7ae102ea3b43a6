-- The table of commands.
use Rattle.std.specs.Prelude.{ℕ, Bool, ◌&&◌, nat_le, List, [], ◌∷◌, codes, Option, None}
use Rattle.std.specs.List.{find}
use Rattle.std.specs.Str.{str_eq_ignore_ascii_case}
use Rattle.silt_resp.specs.declared.table.CommandName.{CommandName}
use Rattle.silt_resp.specs.declared.table.CommandName.TheVariants.{Get, Strlen, Mget, Exists, Touch, Set, Setnx, Delifeq, Mset, Del, Unlink, Ping, Echo, Quit}
use Rattle.silt_resp.specs.declared.table.CommandName.TheVariants.{Select, Auth, Hello, Client, Command, Config, Cluster, Info, Shutdown, Bgsave}
use Rattle.silt_resp.specs.Stream.{Word, whole, long}

-- a command's name in lower case, and the fewest and the most words that may follow it
pub record Row : Type 0 where
  pub name : List ℕ
  pub least : ℕ
  pub most : ℕ

abbrev pub row : List ℕ → ℕ → ℕ → Row
row name least most = record { name = name; least = least; most = most }

-- as many words behind the name as are kept
abbrev pub many : ℕ
many = 1023

abbrev pub command_row : CommandName → Row
command_row Get = row (codes "get") 1 1
command_row Strlen = row (codes "strlen") 1 1
command_row Mget = row (codes "mget") 1 many
command_row Exists = row (codes "exists") 1 many
command_row Touch = row (codes "touch") 1 many
command_row Set = row (codes "set") 2 many
command_row Setnx = row (codes "setnx") 2 2
command_row Delifeq = row (codes "delifeq") 2 2
command_row Mset = row (codes "mset") 2 many
command_row Del = row (codes "del") 1 many
command_row Unlink = row (codes "unlink") 1 many
command_row Ping = row (codes "ping") 0 1
command_row Echo = row (codes "echo") 1 1
command_row Quit = row (codes "quit") 0 many
command_row Select = row (codes "select") 1 1
command_row Auth = row (codes "auth") 1 many
command_row Hello = row (codes "hello") 0 many
command_row Client = row (codes "client") 1 many
command_row Command = row (codes "command") 0 many
command_row Config = row (codes "config") 1 many
command_row Cluster = row (codes "cluster") 1 many
command_row Info = row (codes "info") 0 many
command_row Shutdown = row (codes "shutdown") 0 many
command_row Bgsave = row (codes "bgsave") 0 many

-- all commands
abbrev pub all_commands : List CommandName
all_commands =
    Get ∷ Strlen ∷ Mget ∷ Exists ∷ Touch ∷ Set ∷ Setnx ∷ Delifeq ∷ Mset ∷ Del ∷ Unlink ∷ Ping ∷ Echo ∷ Quit ∷ Select ∷ Auth ∷ Hello ∷ Client ∷ Command
    ∷ Config ∷ Cluster ∷ Info ∷ Shutdown ∷ Bgsave ∷ []

-- the command with this name, in either case
abbrev pub command_named : List ℕ → Option CommandName
command_named name = find (λ command. str_eq_ignore_ascii_case name (command_row command).name) all_commands

-- the command that the first of these words names
abbrev pub first_command : List Word → Option CommandName
first_command [] = None
first_command (whole name ∷ args) = command_named name
first_command (long ∷ args) = None

-- whether so many words may follow a command's name
abbrev pub takes : CommandName → ℕ → Bool
takes command count = nat_le (command_row command).least count && nat_le count (command_row command).most
