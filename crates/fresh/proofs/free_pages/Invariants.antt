use Rattle.std.proofs.Common.{◌≡◌, ◌-◌}
use Rattle.model.specs.Bytes as Model
use Rattle.fresh.proofs.free_pages.Given as goal

abbrev pub invariant-loop-page : goal.invariant-loop-page
invariant-loop-page l = Model.chained (255 - l.page) l.m l.page ≡ Model.freed l.fn.m
