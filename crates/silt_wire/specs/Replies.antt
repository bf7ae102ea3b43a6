-- The texts of replies.
use Rattle.std.specs.Prelude.{ℕ, List, ◌++◌, codes, ◌∷◌, []}
use Rattle.std.specs.Fmt.{decimal}
use Rattle.hex.specs.Hex.{encode_lower}
use Rattle.silt_event.specs.declared.place.Place.{Place}
use Rattle.silt_event.specs.declared.place.Place.TheVariants.{Header, Length, Slot, NoSlot, Log, Hash, HashDigest, Sorted, SortedDigest, Charge}
use Rattle.silt_event.specs.declared.progress.Progress.{Progress as ProgressOf}
use Rattle.silt_event.specs.declared.progress.Progress.TheVariants.{Idle, Waiting, Moved, Finished}
use Rattle.silt_event.specs.declared.refusal.Refusal.{Refusal}
use Rattle.silt_event.specs.declared.refusal.Refusal.TheVariants.{Damaged}
use Rattle.silt_event.specs.declared.reply.Reply.{Reply}
use Rattle.silt_event.specs.declared.reply.Reply.TheVariants.{Accepted, Acknowledged, Found, Absent, Differs, Progress, Refused, Unsettled, NotServed}
use Rattle.silt_event.specs.Events.{refusal_label}
use Rattle.silt_wire.specs.declared.line.LineFault.{LineFault}
use Rattle.silt_wire.specs.declared.line.LineFault.TheVariants.{BadLine, BadKey, BadValue, LineTooLong, NoMemory}

-- which part of a device is damaged
abbrev pub place_text : Place → List ℕ
place_text Header = codes "header"
place_text Length = codes "length"
place_text (Slot i) = codes "slot " ++ decimal i
place_text NoSlot = codes "no slot"
place_text (Log i j) = codes "log " ++ (decimal i ++ (codes " row " ++ decimal j))
place_text (Hash i j) = codes "hash " ++ (decimal i ++ (codes " slot " ++ decimal j))
place_text (HashDigest i) = codes "hash " ++ (decimal i ++ codes " digest")
place_text (Sorted j) = codes "sorted " ++ decimal j
place_text SortedDigest = codes "sorted digest"
place_text Charge = codes "charge"

-- a number and a name in a text
abbrev pub label_text : ℕ × List ℕ → List ℕ
label_text label = decimal label.0 ++ (codes " " ++ label.1)

-- the number and the name of a refusal, and for a damaged device the place
abbrev pub refusal_text : {F : Type 0} → Refusal F → List ℕ
refusal_text {F} (Damaged place) = label_text (refusal_label {F = F} (Damaged place)) ++ (codes " " ++ place_text place)
refusal_text refusal = label_text (refusal_label refusal)

abbrev pub progress_text : ProgressOf → List ℕ
progress_text Idle = codes "idle"
progress_text Waiting = codes "waiting"
progress_text Moved = codes "moved"
progress_text Finished = codes "finished"

-- the number and the name of a line's fault in texts
abbrev pub fault_label : LineFault → ℕ × List ℕ
fault_label BadLine = (20, codes "BadLine")
fault_label BadKey = (21, codes "BadKey")
fault_label BadValue = (22, codes "BadValue")
fault_label LineTooLong = (23, codes "LineTooLong")
fault_label NoMemory = (6, codes "NoMemory")

-- the reply to a line without a valid request, without its line feed
abbrev pub fault_text : LineFault → List ℕ
fault_text fault = codes "refused " ++ label_text (fault_label fault)

-- a reply as one line, without its line feed; an event that is not served has the text of a line without a valid request
abbrev pub reply_text : {F : Type 0} → Reply F → List ℕ
reply_text (Accepted n) = codes "accepted " ++ decimal n
reply_text (Acknowledged n) = codes "acknowledged " ++ decimal n
reply_text (Found value) = codes "value " ++ encode_lower value
reply_text Absent = codes "absent"
reply_text Differs = codes "differs"
reply_text (Progress progress) = progress_text progress
reply_text (Refused refusal) = codes "refused " ++ refusal_text refusal
reply_text (Unsettled n) = codes "unsettled " ++ decimal n
reply_text NotServed = fault_text BadLine

-- the reply to a line without a valid request, as a line
abbrev pub fault_line : LineFault → List ℕ
fault_line fault = fault_text fault ++ 10 ∷ []
