-- The replies to commands, as clients read them.
use Rattle.std.specs.Prelude.{ℕ, Bool, true, false, List, [], ◌∷◌, ◌++◌, length, count_by, codes, Option, Some, None}
use Rattle.std.specs.Fmt.{decimal}
use Rattle.std.specs.List.{find, flat_map}
use Rattle.silt_event.specs.declared.refusal.Refusal.{Refusal}
use Rattle.silt_event.specs.declared.refusal.Refusal.TheVariants.{NoRoom, Failed}
use Rattle.silt_event.specs.declared.reply.Reply.TheVariants.{Accepted, Found, Refused, Unsettled, NotServed}
use Rattle.silt_event.specs.Events.{PlainReply, refusal_label}
use Rattle.silt_wire.specs.Replies.{label_text}
use Rattle.silt_resp.specs.declared.texts.Form.{Form}
use Rattle.silt_resp.specs.declared.texts.Form.TheVariants.{Value, Len, Stored, Swapped, Changed, Values, Counted}
use Rattle.silt_resp.specs.Values.{string_of}

-- ---- the texts of the protocol

-- a line of text behind its mark
abbrev pub marked_line : ℕ → List ℕ → List ℕ
marked_line mark text = mark ∷ (text ++ 13 ∷ 10 ∷ [])

-- an error
abbrev pub error_text : List ℕ → List ℕ
error_text text = marked_line 45 text

-- a number
abbrev pub number_text : ℕ → List ℕ
number_text n = marked_line 58 (decimal n)

-- a string, its length in front
abbrev pub string_text : List ℕ → List ℕ
string_text s = marked_line 36 (decimal (length s)) ++ (s ++ 13 ∷ 10 ∷ [])

-- no string
abbrev pub null_text : List ℕ
null_text = marked_line 36 (codes "-1")

-- it is done
abbrev pub ok_text : List ℕ
ok_text = marked_line 43 (codes "OK")

-- ---- refusals

-- whether a reply refuses its event, or cannot say that it is kept
abbrev pub is_error : PlainReply → Bool
is_error (Refused refusal) = true
is_error (Unsettled n) = true
is_error NotServed = true
is_error reply = false

-- what clients may do about a refusal, in the protocol's words
abbrev pub refusal_word : Refusal (Unit {0}) → List ℕ
refusal_word NoRoom = codes "TRYAGAIN "
refusal_word Failed = codes "MISCONF "
refusal_word refusal = codes "ERR "

-- the error of such a reply
abbrev pub reply_error : PlainReply → List ℕ
reply_error (Refused refusal) = refusal_word refusal ++ label_text (refusal_label refusal)
reply_error (Unsettled n) = codes "UNSETTLED the flush was refused, a crash may lose this"
reply_error reply = codes "ERR not served"

-- ---- values

abbrev pub is_found : PlainReply → Bool
is_found (Found value) = true
is_found reply = false

-- the string of a value, if there is one, among others
abbrev pub item_of : Option (List ℕ) → List ℕ
item_of None = null_text
item_of (Some s) = string_text s

abbrev pub item_text : PlainReply → List ℕ
item_text (Found value) = item_of (string_of value)
item_text reply = null_text

-- the error of a value that holds no string
abbrev pub wrong_type : List ℕ
wrong_type = error_text (codes "WRONGTYPE Operation against a key holding the wrong kind of value")

-- the string of a value alone
abbrev pub string_or_error : Option (List ℕ) → List ℕ
string_or_error None = wrong_type
string_or_error (Some s) = string_text s

-- how long it is
abbrev pub length_or_error : Option (List ℕ) → List ℕ
length_or_error None = wrong_type
length_or_error (Some s) = number_text (length s)

-- ---- forms

-- the reply to a command of this form, if no event of it was refused
abbrev pub plain_text : Form → List PlainReply → List ℕ
plain_text Value (Found value ∷ replies) = string_or_error (string_of value)
plain_text Value replies = null_text
plain_text Len (Found value ∷ replies) = length_or_error (string_of value)
plain_text Len replies = number_text 0
plain_text Stored replies = ok_text
plain_text Swapped (Accepted n ∷ replies) = ok_text
plain_text Swapped replies = null_text
plain_text Changed (Accepted n ∷ replies) = number_text 1
plain_text Changed replies = number_text 0
plain_text Values replies = marked_line 42 (decimal (length replies)) ++ flat_map item_text replies
plain_text Counted replies = number_text (count_by is_found replies)

-- the first error if there is one, and else this text
abbrev pub error_or : Option PlainReply → List ℕ → List ℕ
error_or None text = text
error_or (Some reply) text = error_text (reply_error reply)

-- the reply to a command of this form, of the replies to its events
abbrev pub text_of : Form → List PlainReply → List ℕ
text_of form replies = error_or (find is_error replies) (plain_text form replies)
