-- Kinds and their bytes.
use Rattle.silt_log.proofs.Common.{arith, ◌≡◌, ℕ, Some, cases_Bool, cond-true, cond-false, eqb-true, kind_byte, kind_of, Kind}

-- the kind of a byte has this byte
pub kind_of_byte : (byte : ℕ) (kind : Kind) → kind_of byte ≡ Some kind → kind_byte kind ≡ byte
kind_of_byte byte kind is = search (arith, cases_Bool, cond-true, eqb-true, cond-false)
