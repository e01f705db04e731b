use Rattle.turn.proofs.Laws.{Leads}
use Rattle.turn.proofs.chosen.Given as goal

abbrev pub invariant-loop-page : goal.invariant-loop-page
invariant-loop-page l = Leads l.m l.leader l.page-iterator
