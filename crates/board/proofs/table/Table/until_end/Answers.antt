use Rattle.std.proofs.Common.{◌∙◌}
use Rattle.board.proofs.Reaches.{until_first, until_none}
use Rattle.board.proofs.table.Table.until_end.Goals as goal

pub returns-in-None : goal.returns-in-None
returns-in-None g c = record { answer = until_none c.args.self.now c.args.instant c.args.most c.requires c.in-None.ensures.answer }

pub returns-in-Some : goal.returns-in-Some
returns-in-Some g c = record { answer = c.min.ensures ∙ until_first c.args.self.now c.args.instant c.args.most c.requires c.in-Some.e c.in-Some.ensures.answer }
