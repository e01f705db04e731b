use Rattle.queues.proofs.+cell_from.Given as goal

-- what is left falls
abbrev pub decreases-cell_from : goal.decreases-cell_from
decreases-cell_from l = l.left
