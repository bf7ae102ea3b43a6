-- The text of a report.
use Rattle.std.specs.Prelude.{List, ℕ, ◌++◌, codes}
use Rattle.std.specs.Fmt.{decimal}
use Rattle.silt_event.specs.declared.report.Layout.{Layout}
use Rattle.silt_event.specs.declared.report.Layout.TheVariants.{One, Two}
use Rattle.silt_event.specs.declared.report.Report.{Report}

-- a line of one number
unfoldable pub number_line : List ℕ → ℕ → List ℕ
number_line name number = name ++ (codes " " ++ (decimal number ++ codes "\n"))

-- a line of one number, and of how many rows belong to it
unfoldable pub rows_line : List ℕ → ℕ → ℕ → List ℕ
rows_line name number rows = name ++ (codes " " ++ (decimal number ++ (codes " rows " ++ (decimal rows ++ codes "\n"))))

-- the number of a layout
abbrev pub layout_number : Layout → ℕ
layout_number One = 1
layout_number Two = 2

-- the seven lines of a report
abbrev pub report_text : Report → List ℕ
report_text report =
    number_line (codes "generation") report.generation
    ++ (rows_line (codes "active log") report.active report.active_rows
    ++ (rows_line (codes "frozen logs") report.frozen report.frozen_rows
    ++ (rows_line (codes "hash stores") report.hashes report.hash_rows
    ++ (number_line (codes "sorted entries") report.entries
    ++ (number_line (codes "charge") report.charge
    ++ number_line (codes "layout") (layout_number report.layout))))))
