-- What a server flushes together.
use Rattle.std.specs.Prelude.{Bool, true, false}
use Rattle.silt_server.specs.declared.limits.Protocol.{Protocol}
use Rattle.silt_server.specs.declared.limits.Protocol.TheVariants.{Lines, Resp}

-- all commands of one read are flushed together
abbrev pub pipelines : Protocol → Bool
pipelines Lines = false
pipelines protocol = true

-- a get waits for a flush if a crash may take away what it shows
abbrev pub settles_gets : Protocol → Bool
settles_gets Resp = true
settles_gets protocol = false
