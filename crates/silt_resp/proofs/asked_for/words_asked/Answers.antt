use Rattle.silt_resp.proofs.asked_for.words_asked.Goals as goal

pub returns-in-Some-clause-fits : goal.returns-in-Some-clause-fits
returns-in-Some-clause-fits c = c.told.ensures.fits c.args.settings.now.value_len c.checked.ensures.fits
