use Rattle.silt_log_store.proofs.Buckets.{bucket_count_is}
use Rattle.silt_conversion.proofs.Writing.{all_charged, all_due, conversion_of, store_stands}
use Rattle.silt_conversion.proofs.conversion.Conversion.into_store.Goals as goal

pub returns-clause-stands : goal.returns-clause-stands
returns-clause-stands c =
    let conversion = conversion_of c.self.inside in
    let done = rw (← c.self.view_is) at c.requires.done in
    let count = bucket_count_is _ c.buckets-known.ensures.limits.buckets in
    rw (c.new.ensures, ← c.self.view_is) (λ content log. store_stands content log conversion c.finalize.result count done c.finalize.ensures)

pub returns-clause-rows : goal.returns-clause-rows
returns-clause-rows c =
    let conversion = conversion_of c.self.inside in
    let done = rw (← c.self.view_is) at c.requires.done in
    rw (← c.self.view_is) (λ content log. all_due content log conversion done)

pub returns-clause-charged : goal.returns-clause-charged
returns-clause-charged c =
    let conversion = conversion_of c.self.inside in
    let done = rw (← c.self.view_is) at c.requires.done in
    rw (← c.self.view_is) (λ content log. all_charged content log conversion done)

pub returns-clause-digest : goal.returns-clause-digest
returns-clause-digest c = rw (c.new.ensures, ← c.self.view_is) c.finalize.ensures
