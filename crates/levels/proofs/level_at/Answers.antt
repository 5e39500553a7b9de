use Rattle.levels.proofs.Levels.{level-word}
use Rattle.levels.proofs.level_at.Goals as goal

pub returns : goal.returns
returns c = search level-word
