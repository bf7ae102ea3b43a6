use Rattle.silt_desk.proofs.Common.{sym, ◌∙◌, ap, log_word, call, noted_event, reply_of}
use Rattle.silt_desk.proofs.CallLogs.{adds_moves}
use Rattle.silt_desk.proofs.call_log.CallView.append.Goals as goal

pub compare_exchange-found-requires : goal.compare_exchange-found-requires
compare_exchange-found-requires c =
    let h = c.requires.head ∙ ap (λ v. log_word v.book) (sym c.self.view_is) in
    let offer = c.plain-offer.ensures in
    let pen = c.no_pen-pen.ensures in
    let noted = c.args.noted.now in (
      ap (λ w. w.tracked) h,
      sym (ap (λ w. w.book) h),
      pen.0 ∙ sym (ap (λ w. w.book) h),
      offer.0,
      rw (ap (λ w. w.key) h, pen.1, offer.1, offer.3)
          (adds_moves c.self.inside.seen.log (call noted.caller (noted_event noted.note noted.value.now noted.second.now) (reply_of noted.note noted.value.now))
          c.self.inside.count (sym c.self.invariant)),
    )
