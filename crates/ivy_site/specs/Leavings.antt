-- What a string leaves of the access to a page.
use Rattle.std.specs.Prelude.{◌≡◌, ℕ, List, Some}
use Rattle.ivy_wire.specs.stated.Data.{Frame, Message}
use Rattle.ivy_wire.specs.stated.Spelling.{Spells}
use Rattle.ivy_link.specs.stated.Accepted.{offered}
use Rattle.ivy_link.specs.declared.Verdict.TheVariants as verdict
use Rattle.ivy_coherence.specs.declared.leaving.Leaving.{Leaving}
use Rattle.ivy_coherence.specs.Leavings.{leaves}
use Rattle.ivy_site.specs.SiteView.{SiteView}

-- the string spells the next frame of its source, and its message takes access to this page, of which
-- this is left
pub record Leaves (s : SiteView) (bytes : List ℕ) (l : Leaving) : Type 0 where
  pub frame : Frame
  pub spelled : Spells s.config frame bytes
  pub next : offered s.node.link frame ≡ verdict.Next
  pub message : Message
  pub body : frame.body ≡ Some message
  pub left : leaves s.node.core.memory.coherence frame.source message ≡ Some l
