use Rattle.example_programs.proofs.Piping.{pipelines-map}
use Rattle.example_programs.proofs.law.pipelines_map.Goals as goal

pub returns : goal.returns
returns c = pipelines-map
