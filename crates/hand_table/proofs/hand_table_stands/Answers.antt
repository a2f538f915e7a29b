use Rattle.hand_table.proofs.Stands.{hand_table}
use Rattle.hand_table.proofs.hand_table_stands.Goals as goal

pub returns : goal.returns
returns c = hand_table
