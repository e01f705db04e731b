use Rattle.model.proofs.Codes.{row_at}
use Rattle.model.proofs.instructions.Code.row.Goals as goal

pub returns : goal.returns
returns c = row_at c.args.self _
