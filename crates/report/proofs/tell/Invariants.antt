use Rattle.model.specs.Bytes as Model
use Rattle.report.proofs.Laws.{Ends}
use Rattle.report.proofs.tell.Given as goal

-- what is left to tell ends what is told of these two
abbrev pub invariant-loop-line : goal.invariant-loop-line
invariant-loop-line g l = Ends l.line-iterator (Model.lines l.fn.first l.fn.second)
