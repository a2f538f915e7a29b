use Rattle.std.proofs.Common.{rules}
use Rattle.sheets.proofs.plan.SubjectMapFromSubjectDraft.from.Goals as goal

pub returns-in-Polygon : goal.returns-in-Polygon
returns-in-Polygon c = search rules
