use Rattle.std.proofs.Common.{rules, ◌-◌, ◌+◌, arith, sym, ◌∙◌}
use Rattle.model.specs.Map as Map
use Rattle.deleting.proofs.Laws.{walk_none, walk_end, walk_on, marks_messages}
use Rattle.deleting.proofs.Leaving.mark_from.Goals as goal

pub returns-in_default : goal.returns-in_default
returns-in_default c =
    walk_end marks_messages (Map.control_pages - c.loop.counter) c.loop.m c.args.self.name.0 c.loop.cell c.in_default.ensures ∙ c.loop.invariant.1

pub loop-preserved : goal.loop-preserved
loop-preserved c = (
  search rules,
  sym
      (walk_on marks_messages (Map.control_pages - c.loop.counter) (Map.control_pages - (c.loop.counter + 1)) c.loop.m c.mark.new.m c.args.self.name.0
      c.loop.cell
      c.place-cell.result c.in-Some.message (omega arith) c.in-Some.ensures c.mark.ensures c.place-cell.ensures.0)
      ∙ c.loop.invariant.1,
)

pub returns : goal.returns
returns c = walk_none marks_messages (Map.control_pages - c.loop.counter) c.loop.m c.args.self.name.0 c.loop.cell (omega arith) ∙ c.loop.invariant.1
