use denote.Text.{Utf8}
use denote.Shadow.{shadow}
use Rattle.screen.proofs.rows.mail.Given as goal

-- the label stays text
abbrev pub invariant-loop-page : goal.invariant-loop-page
invariant-loop-page g l =
    (goal.iterator-loop-page g).can_next l.page-iterator × (goal.iterator-loop-page g).is_finite l.page-iterator × shadow (Utf8 l.label)
