use Rattle.std.proofs.Common.{◌≡◌, ◌∙◌}
use Rattle.model.specs.Bytes as Model
use Rattle.turn.proofs.Laws.{turn_stays, turn_changes, saved_none, saved_some, loaded_none, loaded_some, runs_none, runs_some}
use Rattle.turn.proofs.who_runs.Goals as goal
use Rattle.turn.proofs.who_runs.Goals.{in-Some, in_default}

pub returns-then-eq : goal.returns-then-eq
returns-then-eq c = turn_stays c.args.m.now c.page_at-old.result c.chosen-new.result c.page_at-old.ensures c.chosen-new.ensures c.if-eq.ensures

pub returns-in-Some-new : goal.returns-in-Some-new
returns-in-Some-new c =
    let m = c.args.m.now in
    let o = c.page_at-old.result in
    let n = c.chosen-new.result in
    let r = Model.running m in
    let s : c.match-old.m ≡ Model.save m r =
    elim c.match-old.branch [
      | in-Some w ↦ w.m-is ∙ saved_some m w.save.new.m o r c.page_at-old.ensures w.in-Some.page w.in-Some.is w.save.ensures
      | in_default w ↦ w.m-is ∙ saved_none m m o r c.page_at-old.ensures w.in_default.is
    ] in
    turn_changes m o n c.page_at-old.ensures c.chosen-new.ensures c.match-old.m c.load.new.m c.runs.new.m c.if-eq.ensures s
    (loaded_some c.match-old.m c.load.new.m n (Model.chosen m) c.chosen-new.ensures c.in-Some-new.page c.in-Some-new.is c.load.ensures)
    (runs_some c.load.new.m c.runs.new.m n (Model.chosen m) c.chosen-new.ensures c.in-Some-new.page c.in-Some-new.is c.runs.ensures)

pub returns-in-None : goal.returns-in-None
returns-in-None c =
    let m = c.args.m.now in
    let o = c.page_at-old.result in
    let n = c.chosen-new.result in
    let r = Model.running m in
    let s : c.match-old.m ≡ Model.save m r =
    elim c.match-old.branch [
      | in-Some w ↦ w.m-is ∙ saved_some m w.save.new.m o r c.page_at-old.ensures w.in-Some.page w.in-Some.is w.save.ensures
      | in_default w ↦ w.m-is ∙ saved_none m m o r c.page_at-old.ensures w.in_default.is
    ] in
    turn_changes m o n c.page_at-old.ensures c.chosen-new.ensures c.match-old.m c.match-old.m c.runs-in-None.new.m c.if-eq.ensures s
    (loaded_none c.match-old.m c.match-old.m n (Model.chosen m) c.chosen-new.ensures c.in-None.is)
    (runs_none c.match-old.m c.runs-in-None.new.m n (Model.chosen m) c.chosen-new.ensures c.in-None.is c.runs-in-None.ensures)
