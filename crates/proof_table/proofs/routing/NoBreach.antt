-- Where requests go down none is at its origin, and so each letter of an orderly net fits a rule.
use Rattle.std.proofs.Common.{◌≡◌, ◌≢◌, ◌<◌, ℕ, List, ◌∷◌, slice_get, refl, sym, ap, ◌∙◌, arith}
use Rattle.ivy_model.specs.declared.Config.{Config}
use Rattle.ivy_model.specs.stated.Config.{IsConfig}
use Rattle.ivy_wire.specs.declared.Content.TheVariants as content
use Rattle.ivy_wire.specs.stated.Data.{Content}
use Rattle.proof_table.specs.stated.Letters.{Letter, Net, Place, Loose, IsAt}
use Rattle.proof_table.specs.stated.Orderly.{IsOrderly}
use Rattle.proof_table.specs.transitions.TableSteps.{Misfits}
use Rattle.proof_table.proofs.transitions.Fitting.{IsRequest, none_misfits}
use Rattle.proof_table.specs.stated.Descending.{Descends}

module _ (n : Net) (down : Descends n) where
  lower : (h : ℕ → ℕ) (i j : ℕ) → h j < h i → i ≡ j → ⊥
  lower h i j lt same = (let e : h i ≡ h j = ap h same in omega (arith, lt, e))

  requests_away : (a : Place) (l : Letter) (body : Content) → IsAt n a l → l.message.content ≡ body
      → IsRequest body → l.message.origin ≢ l.dest
  requests_away a l (content.ReadReq page) at is request =
      lower (down page).0 l.message.origin l.dest
      ((down page).1.reads l.message.origin l.dest
      (record { at = a; letter = l; there = at; dest = refl; asker = refl; asks = is }))
  requests_away a l (content.WriteReq page) at is request =
      lower (down page).0 l.message.origin l.dest
      ((down page).1.writes l.message.origin l.dest
      (record { at = a; letter = l; there = at; dest = refl; asker = refl; asks = is }))
  requests_away a l (content.ReadRep page bytes) at is request = absurd request
  requests_away a l (content.WriteRep page copies bytes) at is request = absurd request
  requests_away a l (content.Inval page) at is request = absurd request
  requests_away a l (content.InvalAck page) at is request = absurd request
  requests_away a l (content.AllocReq size) at is request = absurd request
  requests_away a l (content.AllocRep code addr) at is request = absurd request
  requests_away a l (content.FreeReq addr) at is request = absurd request
  requests_away a l (content.FreeRep code) at is request = absurd request

  -- the first loose letter is no breach
  pub no_breach : (c : Config) → IsConfig c → IsOrderly c n
      → (x : ℕ) (l : Letter) (rest : List Letter) → x < c.nodes → n.loose ≡ l ∷ rest → l.dest ≡ x
      → Misfits n x l l.message.content → ⊥
  no_breach c config order x l rest here loose dest =
      none_misfits c config n order x here (Loose 0) l at dest
      (λ request same. requests_away (Loose 0) l l.message.content at refl request
      (same ∙ sym dest))
    where
      at : IsAt n (Loose 0) l
      at = ap (λ v. slice_get v 0) loose
