use Rattle.model.specs.Bytes.{same_mail}
use Rattle.comparing.proofs.Laws.{Comes}
use Rattle.comparing.proofs.letters.same_mail.Given as goal

abbrev pub invariant-loop-p : goal.invariant-loop-p
invariant-loop-p l =
    Comes l.fn.first l.fn.second (same_mail l.fn.first l.fn.a l.fn.second l.fn.b) l.p-iterator l.others
