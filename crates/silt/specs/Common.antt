-- The names that several files cite, passed on from one place. Declares nothing.
pub use Rattle.sha1.specs.Sha1.{sha1}
pub use Rattle.silt.specs.declared.clash.Clash.{Clash}
pub use Rattle.silt.specs.declared.listener.NoEntrance.{NoEntrance}
pub use Rattle.silt.specs.declared.listener.NoEntrance.TheVariants.{Address, Page, Password, Socket}
pub use Rattle.silt.specs.declared.standard_streams.SameStreams.{SameStreams}
pub use Rattle.silt_desk.specs.Servings.{LeavesCalls}
pub use Rattle.silt_disk.specs.Layout.{Shape}
pub use Rattle.silt_disk.specs.declared.disk.Disk.{Ghosts}
pub use Rattle.silt_jobs.specs.Ended.{HasFailed, Refuses, none_failed}
pub use Rattle.silt_jobs.specs.Jobs.{Prints, RefusesFewRegions, RunsScript}
pub use Rattle.silt_jobs.specs.SetFiles.{FormatsSet, HasFewRegions, HasRegions, OpensFiles, OpensNot, RefusesAt, RunsSet, set_value_len, shard_file}
pub use Rattle.silt_jobs.specs.declared.people.ended.Found.TheVariants.{Shard}
pub use Rattle.silt_jobs.specs.declared.people.ended.Why.{Why}
pub use Rattle.silt_jobs.specs.declared.people.ended.Why.TheVariants.{FewRegions, IsStream, NoJob, NoRandom, NoReply, NotAsked, Refused, ShortValues}
pub use Rattle.silt_jobs.specs.declared.people.failures.Failures.{Failures}
pub use Rattle.silt_jobs.specs.declared.people.streams.StreamError.{StreamError}
pub use Rattle.silt_jobs.specs.declared.people.urgent.Urgent.{Urgent}
pub use Rattle.silt_resp.specs.Texts.{string_text}
pub use Rattle.silt_server.specs.Serving.{BreaksServing, IsServed, LeavesEach, PrintsNotServed, ServesKept, ServesSetAt, network_text}
pub use Rattle.silt_shards.specs.Opening.{AreOfOneShape, AreShards, IsRefusedSet, Says}
pub use Rattle.silt_shards.specs.Routing.{IsShardCount, most_shards}
pub use Rattle.silt_store_set.specs.CoreInvariant.{LeavesBegun}
pub use Rattle.silt_store_set.specs.CoreState.{CoreState, Opens}
pub use Rattle.silt_wire.specs.Lines.{words_of}
pub use Rattle.silt_words.specs.Jobs.{NamedAccess, NamedContact, job_file, job_shards, named, named_access, named_contact}
pub use Rattle.silt_words.specs.declared.job.Job.{Job}
pub use Rattle.silt_words.specs.declared.job.Service.{Service}
pub use Rattle.std.specs.Io.KnownBytes.{Appends}
pub use Rattle.std.specs.List.{AllZip, filter, position, range_with_len, starts_with}
pub use Rattle.std.specs.Net.Grammar.{IsIpText, IsSocketText}
pub use Rattle.std.specs.Net.Socket.{socket_ip, socket_port}
pub use Rattle.std.specs.Option.{IsSomeAnd, option_map_or}
