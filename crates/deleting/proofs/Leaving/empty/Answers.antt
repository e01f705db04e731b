use Rattle.std.proofs.Common.{◌-◌, ◌+◌, arith, sym, ◌∙◌, refl}
use Rattle.model.specs.Map as Map
use Rattle.deleting.proofs.Laws.{walk_none, walk_end, walk_on, empties}
use Rattle.deleting.proofs.Leaving.empty.Goals as goal

pub returns-in_default : goal.returns-in_default
returns-in_default c =
    walk_end empties (Map.control_pages - c.loop.counter) c.loop.m c.args.self.name.0 c.args.header c.in_default.ensures ∙ c.loop.invariant

pub loop-preserved : goal.loop-preserved
loop-preserved c =
    sym
    (walk_on empties (Map.control_pages - c.loop.counter) (Map.control_pages - (c.loop.counter + 1)) c.loop.m c.return_message.new.m c.args.self.name.0
    c.args.header
    c.args.header c.in-Some.message (omega arith) c.in-Some.ensures (cc) refl)
    ∙ c.loop.invariant

pub returns : goal.returns
returns c = walk_none empties (Map.control_pages - c.loop.counter) c.loop.m c.args.self.name.0 c.args.header (omega arith) ∙ c.loop.invariant
