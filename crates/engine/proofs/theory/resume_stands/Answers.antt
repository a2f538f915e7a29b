use Rattle.engine.proofs.Returns.{save_resumes}
use Rattle.engine.proofs.theory.resume_stands.Goals as goal

pub returns : goal.returns
returns c = save_resumes
