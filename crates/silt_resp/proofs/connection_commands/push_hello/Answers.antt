use Rattle.silt_resp.proofs.Doing.{three_appended}
use Rattle.silt_resp.proofs.connection_commands.push_hello.Goals as goal

pub returns : goal.returns
returns c = three_appended c.args.out.now.items _ _ _ _ _ _ c.in_ok-extend_from_slice.ensures.items c.in_ok-push_number.ensures c.in_ok-extend_from_slice-2.ensures.items
