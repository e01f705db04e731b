use Rattle.queues.proofs.+find_page.Given as goal

-- what is left falls
abbrev pub decreases-find_page : goal.decreases-find_page
decreases-find_page l = l.left
