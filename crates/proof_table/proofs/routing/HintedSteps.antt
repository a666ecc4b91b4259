-- Steps that keep the heights of the nodes: what a step has to show of its page so that all leads
-- down still.
use Rattle.std.proofs.Common.{◌≡◌, ◌≢◌, ◌<◌, ℕ, true, false, List, length, sym, ap, ◌∙◌, subst, inl, inr}
use Rattle.std.proofs.lemmas.Bool.{cases_eq}
use Rattle.ivy_model.specs.declared.Config.{Config}
use Rattle.ivy_wire.specs.declared.Content.TheVariants as content
use Rattle.ivy_pagetable.specs.declared.Entry.{Entry}
use Rattle.ivy_pagetable.specs.stated.Entries.{is_owner}
use Rattle.ivy_dynamic.specs.stated.Dynamic.{Hints, hint_of, dynamic_ops}
use Rattle.proof_table.specs.stated.Letters.{Letter, Net, Place, IsAt}
use Rattle.proof_table.proofs.transitions.Needs.{page_of}
use Rattle.proof_table.proofs.transitions.NetSteps.{IsStep}
use Rattle.proof_table.specs.stated.Descending.{IsAsked}
use Rattle.proof_table.specs.routing.Claiming.{claims}
use Rattle.proof_table.specs.stated.Sending.{IsSent, HasPage, owns, comes}
use Rattle.proof_table.specs.routing.Hinting.{LeadDown, IsHinted}
use Rattle.proof_table.proofs.routing.Managers.{IsTold, hop_else}

-- each letter is one of the net before, and the entries are the same
pub record IsPart (n n' : Net) : Type 0 where
  pub letters : (a : Place) (l : Letter) → IsAt n' a l → (b : Place) × IsAt n b l
  pub entries : (i q : ℕ) → n'.entry i q ≡ n.entry i q

module _ (c : Config) (m m' : ℕ → Hints) (n n' : Net) (part : IsPart n n')
    (same : (i : ℕ) → m' i ≡ m i) where
  part_asked : (q : ℕ) (body : _) (o y : ℕ) → IsAsked n' body o y → IsAsked n body o y
  part_asked q body o y k = (
      let f : (b : Place) × IsAt n b k.letter = part.letters k.at k.letter k.there in
      record {
        at = f.0;
        letter = k.letter;
        there = f.1;
        dest = k.dest;
        asker = k.asker;
        asks = k.asks;
      }
      )

  part_sent : (q s y : ℕ) → IsSent n' q s y → IsSent n q s y
  part_sent q s y k = (
      let f : (b : Place) × IsAt n b k.letter = part.letters k.at k.letter k.there in
      record {
        at = f.0;
        letter = k.letter;
        bytes = k.bytes;
        there = f.1;
        from = k.from;
        dest = k.dest;
        brings = k.brings;
      }
      )

  part_page : (r q : ℕ) → HasPage n' r q → HasPage n r q
  part_page r q (owns h) = owns (ap is_owner (sym (part.entries r q)) ∙ h)
  part_page r q (comes a l bits bytes at dest is) =
      let f : (b : Place) × IsAt n b l = part.letters a l at in comes f.0 l bits bytes f.1 dest is

  pub part_hinted : IsHinted c m n → IsHinted c m' n'
  part_hinted hinted = record {
    me = λ i lt. ap (λ (v : Hints). v.me) (same i) ∙ hinted.me i lt;
    nodes = λ i lt. ap (λ (v : Hints). v.nodes) (same i) ∙ hinted.nodes i lt;
    size = λ i lt. ap (λ (v : Hints). length v.hints) (same i) ∙ hinted.size i lt;
    heights = λ q lt. (
        let was : (g : ℕ → ℕ) × LeadDown c m n q g = hinted.heights q lt in (
          was.0,
          record {
            requests = record {
              reads = λ o y k. was.1.requests.reads o y (part_asked q (content.ReadReq q) o y k);
              writes = λ o y k. was.1.requests.writes o y (part_asked q (content.WriteReq q) o y k);
            };
            copies = λ s y k. was.1.copies s y (part_sent q s y k);
            hints = λ y below plain. subst (λ v. was.0 (hint_of v q) < was.0 y) (sym (same y))
                (was.1.hints y below (ap claims (sym (part.entries y q)) ∙ plain));
            lowest = λ r y k. was.1.lowest r y (part_page r q k);
          },
        )
        );
  }

module _ (c : Config) (m m' : ℕ → Hints) (n n' : Net) (x p : ℕ) (e z : Entry) (now : Place → Place)
    (New : Place → Letter → Type 0)
    (step : IsStep n n' x p e z now New) (t : IsTold dynamic_ops m m' x p) where
  -- of page q: its new letters lead down, and so does the new entry
  pub record IsLow (q : ℕ) (g : ℕ → ℕ) : Type 0 where
    pub reads : (a : Place) (l : Letter) → New a l → l.message.content ≡ content.ReadReq q
        → g l.dest < g l.message.origin
    pub writes : (a : Place) (l : Letter) → New a l → l.message.content ≡ content.WriteReq q
        → g l.dest < g l.message.origin
    pub copies : (a : Place) (l : Letter) (bytes : List ℕ) → New a l
        → l.message.content ≡ content.ReadRep q bytes → g l.source < g l.dest
    pub pages : (a : Place) (l : Letter) (bits : ℕ) (bytes : List ℕ) → New a l
        → l.message.content ≡ content.WriteRep q bits bytes → ⊥
    pub owner : q ≡ p → is_owner z ≡ true → HasPage n x p
    pub hint : q ≡ p → claims z ≡ false → g (hint_of (m' x) p) < g x

  module _ (q : ℕ) (g : ℕ → ℕ) (was : LeadDown c m n q g) (low : IsLow q g) where
    low_reads : (o y : ℕ) → IsAsked n' (content.ReadReq q) o y → g y < g o
    low_reads o y k = elim (step.letters k.at k.letter k.there) [
      | inl h ↦
          was.requests.reads o y
          (record {
            at = h.0;
            letter = k.letter;
            there = h.1;
            dest = k.dest;
            asker = k.asker;
            asks = k.asks;
          })
      | inr h ↦
          subst (λ v. g v < g o) k.dest
          (subst (λ v. g k.letter.dest < g v) k.asker (low.reads k.at k.letter h k.asks))
    ]

    low_writes : (o y : ℕ) → IsAsked n' (content.WriteReq q) o y → g y < g o
    low_writes o y k = elim (step.letters k.at k.letter k.there) [
      | inl h ↦
          was.requests.writes o y
          (record {
            at = h.0;
            letter = k.letter;
            there = h.1;
            dest = k.dest;
            asker = k.asker;
            asks = k.asks;
          })
      | inr h ↦
          subst (λ v. g v < g o) k.dest
          (subst (λ v. g k.letter.dest < g v) k.asker (low.writes k.at k.letter h k.asks))
    ]

    low_copies : (s y : ℕ) → IsSent n' q s y → g s < g y
    low_copies s y k = elim (step.letters k.at k.letter k.there) [
      | inl h ↦
          was.copies s y
          (record {
            at = h.0;
            letter = k.letter;
            bytes = k.bytes;
            there = h.1;
            from = k.from;
            dest = k.dest;
            brings = k.brings;
          })
      | inr h ↦
          subst (λ v. g s < g v) k.dest
          (subst (λ v. g v < g k.letter.dest) k.from (low.copies k.at k.letter k.bytes h k.brings))
    ]

    low_hint : (y : ℕ) → y < c.nodes → claims (n'.entry y q) ≡ false → g (hint_of (m' y) q) < g y
    low_hint y below plain = elim (step.elsewhere y q) [
      | inl same ↦ (
          let new : claims z ≡ false =
          ap claims (sym step.after) ∙ ap (λ b. claims (n'.entry x b)) (sym same.1)
          ∙ ap (λ a. claims (n'.entry a q)) (sym same.0) ∙ plain in
          subst (λ a. g (hint_of (m' a) q) < g a) (sym same.0)
          (subst (λ b. g (hint_of (m' x) b) < g x) (sym same.1) (low.hint same.1 new))
          )
      | inr other ↦
          subst (λ v. g v < g y) (sym (hop_else dynamic_ops m m' x p t y q other.0))
          (was.hints y below (ap claims (sym other.1) ∙ plain))
    ]

    page_before : (r : ℕ) → HasPage n' r q → HasPage n r q
    page_before r (owns h) = elim (step.elsewhere r q) [
      | inl same ↦ (
          let new : is_owner z ≡ true =
          ap is_owner (sym step.after) ∙ ap (λ b. is_owner (n'.entry x b)) (sym same.1)
          ∙ ap (λ a. is_owner (n'.entry a q)) (sym same.0) ∙ h in
          subst (λ a. HasPage n a q) (sym same.0)
          (subst (λ b. HasPage n x b) (sym same.1) (low.owner same.1 new))
          )
      | inr other ↦ owns (ap is_owner (sym other.1) ∙ h)
    ]
    page_before r (comes a l bits bytes at dest is) = elim (step.letters a l at) [
      | inl h ↦ comes h.0 l bits bytes h.1 dest is
      | inr h ↦ absurd (low.pages a l bits bytes h is)
    ]

    pub low_leads : LeadDown c m' n' q g
    low_leads = record {
      requests = record { reads = low_reads; writes = low_writes };
      copies = low_copies;
      hints = low_hint;
      lowest = λ r y k. was.lowest r y (page_before r k);
    }

  -- all new letters are about the page of the step
  module _ (about : (a : Place) (l : Letter) → New a l → page_of l.message.content ≡ p) where
    low_else : (q : ℕ) (g : ℕ → ℕ) → q ≢ p → IsLow q g
    low_else q g ne = record {
      reads = λ a l new is. absurd (ne (ap page_of (sym is) ∙ about a l new));
      writes = λ a l new is. absurd (ne (ap page_of (sym is) ∙ about a l new));
      copies = λ a l bytes new is. absurd (ne (ap page_of (sym is) ∙ about a l new));
      pages = λ a l bits bytes new is. ne (ap page_of (sym is) ∙ about a l new);
      owner = λ same. absurd (ne same);
      hint = λ same. absurd (ne same);
    }

    -- of that page there are heights still
    pub step_hinted : (((g : ℕ → ℕ) → LeadDown c m n p g → (h : ℕ → ℕ) × LeadDown c m' n' p h))
        → IsHinted c m n → IsHinted c m' n'
    step_hinted heights hinted = record {
      me = λ i lt. (t.keeps i).me ∙ hinted.me i lt;
      nodes = λ i lt. (t.keeps i).nodes ∙ hinted.nodes i lt;
      size = λ i lt. (t.keeps i).size ∙ hinted.size i lt;
      heights = λ q lt. (
          let was : (g : ℕ → ℕ) × LeadDown c m n q g = hinted.heights q lt in
          elim (cases_eq q p) [
            | inl same ↦
                subst (λ v. (h : ℕ → ℕ) × LeadDown c m' n' v h) (sym same)
                (heights was.0 (subst (λ v. LeadDown c m n v was.0) same was.1))
            | inr ne ↦ (was.0, low_leads q was.0 was.1 (low_else q was.0 ne))
          ]
          );
    }

    -- the same
    pub low_hinted : ((g : ℕ → ℕ) → LeadDown c m n p g → IsLow p g) → IsHinted c m n
        → IsHinted c m' n'
    low_hinted low = step_hinted (λ g was. (g, low_leads p g was (low g was)))
