-- Steps without a reply: no letter is new, or orders to give copies up are.
use Rattle.std.proofs.Common.{◌≡◌, ◌≢◌, ℕ, true, length, refl, sym, ap, ◌∙◌, subst}
use Rattle.std.specs.FinSet as set
use Rattle.ivy_model.specs.declared.Config.{Config}
use Rattle.ivy_wire.specs.declared.Content.TheVariants as content
use Rattle.ivy_pagetable.specs.declared.Entry.{Entry}
use Rattle.ivy_pagetable.specs.stated.NodeSets.{Nodes}
use Rattle.proof_table.specs.stated.Letters.{Letter, Net, Place, Underway, Loose, IsAt}
use Rattle.proof_table.specs.stated.Orderly.{Collects, HasCopy, Order, key_of, IsAbout, IsExpected, IsOrderly}
use Rattle.proof_table.specs.transitions.TableSteps.{letter}
use Rattle.proof_table.proofs.transitions.Needs.{page_of, Needs, needs, key_origin, key_page, of_origin, of_page}
use Rattle.proof_table.proofs.transitions.NetSteps.{IsAccounted, IsStep, step_orderly}
use Rattle.proof_table.proofs.transitions.Parcels.{IsNone, IsOrder}
use Rattle.proof_table.proofs.transitions.Replies.{IsEntryOf}

-- a letter whose key names this node and page needs the node's entry of it
pub needs_here : (c : Config) (n : Net) (x p : ℕ) (e : Entry) → IsOrderly c n → n.entry x p ≡ e
    → (b : Place) (l : Letter) → IsAt n b l
    → key_origin (key_of l) ≡ x → key_page (key_of l) ≡ p → Needs e l l.message.content
needs_here c n x p e o is b l at origin page =
    let a : l.message.origin ≡ x = sym (of_origin l l.message.content) ∙ origin in
    let q : page_of l.message.content ≡ p = sym (of_page l l.message.content) ∙ page in
    subst (λ y. Needs y l l.message.content)
    (ap (λ i. n.entry i (page_of l.message.content)) a ∙ ap (n.entry x) q ∙ is)
    (needs c n l l.message.content (o.fits b l at))

module _ (c : Config) (n n' : Net) (x p : ℕ) (e z : Entry) (now : Place → Place) (o : IsOrderly c n)
  where
    -- the needs of what stays are met
    abbrev pub AreKept : Type 0
    AreKept =
        (b : Place) (l : Letter) → IsAt n b l → b ≢ Loose 0 → l.message.origin ≡ x
        → page_of l.message.content ≡ p → Needs e l l.message.content → Needs z l l.message.content

    -- who acknowledged has no copy
    abbrev pub AreGone : Type 0
    AreGone =
        (b : Place) (l : Letter) (q : ℕ) → IsAt n b l → l.message.content ≡ content.InvalAck q
        → HasCopy n' l.source q → HasCopy n l.source q

    pub quiet_orderly : IsStep n n' x p e z now IsNone → AreKept → AreGone → IsEntryOf x z
        → IsAccounted n' → IsOrderly c n'
    quiet_orderly step keeps acks entry accounted =
        step_orderly c n n' x p e z now IsNone step (record {
          keeps = keeps;
          acks = λ b l q at stays. acks b l q at;
          news = λ a l new. absurd new;
          fresh = λ a b l m new. absurd new;
          apart = λ a b l m new. absurd new;
          foreign = entry.foreign;
          orders = entry.orders;
          accounted = accounted;
          alone = entry.alone;
        }) o

    -- the node collects acknowledgements now, and no letter was about that
    pub ordered_orderly : (call : ℕ) (nodes : Nodes)
        → IsStep n n' x p e z now (IsOrder n x p call nodes)
        → IsAbout c (letter x x x call (content.Inval p)) p
        → ((target : ℕ) → set.contains nodes target ≡ true → Collects z call target)
        → ((l : Letter) (target : ℕ) → Needs e l l.message.content → key_of l ≡ Order x target p → ⊥)
        → AreKept → AreGone → IsEntryOf x z → IsAccounted n' → IsOrderly c n'
    ordered_orderly call nodes step about collects none keeps acks entry accounted =
        step_orderly c n n' x p e z now (IsOrder n x p call nodes) step (record {
          keeps = keeps;
          acks = λ b l q at stays. acks b l q at;
          news = λ a l new. subst (IsExpected c n') (sym new.3) (
            record { below = about.below; inside = about.inside },
            refl,
            subst (λ y. Collects y call new.0) (sym step.after) (collects new.0 new.1),
          );
          fresh = λ a b l m new at stays same. (
              let key : Order x new.0 p ≡ key_of m = ap key_of (sym new.3) ∙ same in
              none m new.0
              (needs_here c n x p e o step.before b m at (ap key_origin (sym key))
              (ap key_page (sym key))) (sym key)
              );
          apart = λ a b l m new too same. (
              let key : Order x new.0 p ≡ Order x too.0 p =
              ap key_of (sym new.3) ∙ same ∙ ap key_of too.3 in
              let target : new.0 ≡ too.0 = cc in
              new.2 ∙ ap (λ t. Underway x t (length (n.posted x t))) target ∙ sym too.2
              );
          foreign = entry.foreign;
          orders = entry.orders;
          accounted = accounted;
          alone = entry.alone;
        }) o
