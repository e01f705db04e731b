use Rattle.std.proofs.Common.{◌≡◌, ◌-◌}
use Rattle.model.specs.Bytes as Model
use Rattle.mail.proofs.test_q1.Given as goal

abbrev pub invariant-loop : goal.invariant-loop
invariant-loop l =
    Model.test_q1 (l.left - l.counter) l.m l.page.0 l.asked.name.0 l.asked.flag ≡ Model.test_q1 l.fn.left l.fn.m l.page.0 l.asked.name.0 l.asked.flag
