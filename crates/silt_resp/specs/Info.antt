-- What INFO asks for, and the replies to admin commands.
use Rattle.std.specs.Prelude.{◌==◌, ◌||◌, ℕ, Bool, List, [], ◌++◌, codes, flat_map, length, Option, Some, None, if◌then◌else◌}
use Rattle.std.specs.Fmt.{decimal}
use Rattle.std.specs.List.{list_any}
use Rattle.silt_event.specs.declared.admin.AdminReply.{AdminReply}
use Rattle.silt_event.specs.declared.admin.AdminReply.TheVariants.{Info as Told, Begun, UnderWay}
use Rattle.silt_event.specs.declared.counts.Counts.{Counts}
use Rattle.silt_event.specs.declared.facts.Facts.{Facts}
use Rattle.silt_wire.specs.Facts.{count_rows, fact_rows}
use Rattle.silt_resp.specs.declared.asked.Sections.{Sections}
use Rattle.silt_resp.specs.declared.asked.Tail.{Tail}
use Rattle.silt_resp.specs.declared.asked.Tail.TheVariants.{Info, Shutdown, Backup}
use Rattle.silt_resp.specs.Arguments.{is_word}
use Rattle.silt_resp.specs.Stream.{Word}
use Rattle.silt_resp.specs.Texts.{error_text, marked_line, string_text}

-- ---- sections

-- whether a word is the name of a section, or one of those that name all
abbrev pub is_section : List ℕ → Word → Bool
is_section name word =
    is_word name (Some word) || (is_word (codes "all") (Some word) || (is_word (codes "default") (Some word) || is_word (codes "everything") (Some word)))

-- whether one of the words names this section; no words name all
abbrev pub names_section : List ℕ → List Word → Bool
names_section name args = (length args == 0) || list_any (is_section name) args

-- the sections that words name; a word that names none adds nothing
abbrev pub sections_named : List Word → Sections
sections_named args = record {
  server = names_section (codes "server") args;
  store = names_section (codes "store") args;
  stats = names_section (codes "stats") args;
}

-- ---- texts

abbrev pub server_section : List ℕ
server_section = codes "# Server\r\nredis_version:7.0.0\r\nsilt_version:0.1.0\r\nloading:0\r\n"

-- a fact in a section
abbrev pub info_line : List ℕ × ℕ → List ℕ
info_line row = row.0 ++ (codes ":" ++ (decimal row.1 ++ codes "\r\n"))

abbrev pub store_section : Facts → List ℕ
store_section facts = codes "# Store\r\n" ++ flat_map info_line (fact_rows facts)

-- what was counted, if the server counts
abbrev pub stats_section : Option Counts → List ℕ
stats_section None = []
stats_section (Some counts) = codes "# Stats\r\n" ++ flat_map info_line (count_rows counts)

-- a section behind those before it, with an empty line between; no text is no section
abbrev pub behind : List ℕ → List ℕ → List ℕ
behind before section =
    if length section == 0 then before
    else if length before == 0 then section
    else before ++ (codes "\r\n" ++ section)

-- a section, if it is asked for
abbrev pub section_if : Bool → List ℕ → List ℕ
section_if is_asked section = if is_asked then section else []

-- the sections that are asked for
abbrev pub info_body : Sections → Facts → Option Counts → List ℕ
info_body sections facts counts =
    behind (behind (section_if sections.server server_section) (section_if sections.store (store_section facts))) (section_if sections.stats (stats_section counts))

-- the reply to an admin command; a shutdown that begins has none: its client sees the connection end
abbrev pub admin_text : Tail → AdminReply → List ℕ
admin_text (Info sections) (Told facts counts) = string_text (info_body sections facts counts)
admin_text Shutdown Begun = []
admin_text Shutdown UnderWay = []
admin_text Backup Begun = marked_line 43 (codes "Background saving started")
admin_text Backup UnderWay = error_text (codes "ERR Background save already in progress")
admin_text tail reply = error_text (codes "ERR not served")
