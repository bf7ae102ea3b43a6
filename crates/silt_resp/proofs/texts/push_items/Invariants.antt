use Rattle.silt_resp.proofs.Common.{◌≡◌, ◌++◌, take}
use Rattle.std.specs.List.{flat_map}
use Rattle.silt_resp.specs.Texts.{item_text}
use Rattle.silt_resp.proofs.texts.push_items.Given as goal

-- the texts of the replies so far are there
abbrev pub invariant-loop-reply : goal.invariant-loop-reply
invariant-loop-reply l = l.out.items ≡ l.fn.out.items ++ flat_map item_text (take l.reply-index l.replies)
