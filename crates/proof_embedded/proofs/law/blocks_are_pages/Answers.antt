use Rattle.proof_embedded.proofs.PageBlocks.{blocks_are_pages}
use Rattle.proof_embedded.proofs.law.blocks_are_pages.Goals as goal

pub returns : goal.returns
returns c = blocks_are_pages
