-- `delivery::with_work` meets its contract. Assumes nothing.
use mathlib.Core.Path.{refl}
use borrow.Author.Rules.{rules}
use Rattle.delivery.proofs.Shell.{passed-loads, load-decides, handed, taken, shell-called}
use Rattle.delivery.proofs.with_work.Goals as goal
use Rattle.delivery.proofs.with_work.Goals.{in-Ok, in-Err}

pub returns : goal.returns
returns g c told own bytes decides =
    shell-called told c.begin.ensures (elim c.match-begin.branch [
      | in-Ok w ↦
          let passed = c.begin.ensures.pass w.in-Ok.is in
          let loaded = passed-loads _ _ _ _ passed w.load-n.ensures.value w.load-n.ensures.work_after (search rules) in
          let step = decides _ _ _ _ _ loaded w.load-n.ensures.work_after
          (record { words = _; room = _; words' = _; room' = _; shows = (refl, refl); met = w.step-answer.ensures; leaves = (refl, refl) }) in
          taken _ _ _ (load-decides _ _ _ _ _ _ _ _ _ w.load-n.ensures.within step) w.in-Ok.is (search rules) w.answer-is w.work-is w.reply-is
      | in-Err w ↦ handed _ w.in-Err.is w.answer-is w.work-is w.reply-is
    ]) c.end.ensures
