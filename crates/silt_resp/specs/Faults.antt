-- What is wrong with commands, in words.
use Rattle.std.specs.Prelude.{ℕ, List, ◌++◌, codes}
use Rattle.std.specs.Fmt.{decimal}
use Rattle.silt_resp.specs.declared.fault.ProtocolFault.{ProtocolFault}
use Rattle.silt_resp.specs.declared.fault.ProtocolFault.TheVariants.{InlineTooLong, CountTooLong, LengthTooLong, BadCount, BadLength, NoDollar, NoCrLf}
use Rattle.silt_resp.specs.declared.fault.CommandFault.{CommandFault}
use Rattle.silt_resp.specs.declared.fault.CommandFault.TheVariants.{LongKey, LongValue, ManyKeys, ManyWords, ManyBytes, WrongCount, BadSyntax, BadIndex}
use Rattle.silt_resp.specs.declared.fault.CommandFault.TheVariants.{BadSubcommand, NoCluster, NotLetIn, NoPassword, WrongPassword, OtherProtocol, NoMemory}
use Rattle.silt_resp.specs.Table.{command_row}

-- what is wrong with bytes that begin no command
abbrev pub protocol_text : ProtocolFault → List ℕ
protocol_text InlineTooLong = codes "too big inline request"
protocol_text CountTooLong = codes "too big mbulk count string"
protocol_text LengthTooLong = codes "too big bulk count string"
protocol_text BadCount = codes "invalid multibulk length"
protocol_text BadLength = codes "invalid bulk length"
protocol_text NoDollar = codes "expected '$'"
protocol_text NoCrLf = codes "expected CRLF"

-- the error of a command that is not done
abbrev pub command_fault_text : CommandFault → List ℕ
command_fault_text LongKey = codes "ERR key is longer than 8000 bytes"
command_fault_text (LongValue most) = codes "ERR value is longer than " ++ (decimal most ++ codes " bytes")
command_fault_text ManyKeys = codes "ERR too many keys"
command_fault_text ManyWords = codes "ERR too many words"
command_fault_text ManyBytes = codes "ERR command is longer than 262144 bytes"
command_fault_text (WrongCount command) = codes "ERR wrong number of arguments for '" ++ ((command_row command).name ++ codes "' command")
command_fault_text BadSyntax = codes "ERR syntax error"
command_fault_text BadIndex = codes "ERR DB index is out of range"
command_fault_text BadSubcommand = codes "ERR unknown subcommand or wrong number of arguments"
command_fault_text NoCluster = codes "ERR This instance has cluster support disabled"
command_fault_text NotLetIn = codes "NOAUTH Authentication required."
command_fault_text NoPassword = codes "ERR AUTH called without any password configured"
command_fault_text WrongPassword = codes "WRONGPASS invalid username-password pair or user is disabled."
command_fault_text OtherProtocol = codes "NOPROTO unsupported protocol version"
command_fault_text NoMemory = codes "ERR out of memory"
