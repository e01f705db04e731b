use Rattle.std.proofs.Common.{rules, ◌-◌, ◌+◌, arith, sym, ◌∙◌}
use Rattle.model.specs.Map as Map
use Rattle.deleting.proofs.Laws.{walk_none, walk_end, walk_on, marks_processors}
use Rattle.deleting.proofs.Leaving.mark_all.Goals as goal

pub returns-in_default : goal.returns-in_default
returns-in_default c =
    walk_end marks_processors (Map.control_pages - c.loop.counter) c.loop.m c.args.self.name.0 c.loop.cell c.in_default.ensures ∙ c.loop.invariant.1

pub loop-preserved : goal.loop-preserved
loop-preserved c = (
  search rules,
  sym
      (walk_on marks_processors (Map.control_pages - c.loop.counter) (Map.control_pages - (c.loop.counter + 1)) c.loop.m c.mark_mail.new.m c.args.self.name.0
      c.loop.cell
      c.place-cell.result c.in-Some.page (omega arith) c.in-Some.ensures c.mark_mail.ensures c.place-cell.ensures.0)
      ∙ c.loop.invariant.1,
)

pub returns : goal.returns
returns c = walk_none marks_processors (Map.control_pages - c.loop.counter) c.loop.m c.args.self.name.0 c.loop.cell (omega arith) ∙ c.loop.invariant.1
