-- Calls of own code that are made together: the turn in which the first of them begins.
use Rattle.std.proofs.Common.{◌≡◌, ℕ, zero, suc, ◌+◌, ◌-◌, ◌%◌, ◌≤◌, true, List, [], ◌∷◌, Some, None, drop, min, if◌then◌else◌, sym, ap, ◌∙◌, subst, arith}
use Rattle.std.specs.Prelude.{All}
use Rattle.ivy_model.specs.declared.Call.{Call}
use Rattle.ivy_model.specs.declared.Config.{Config}
use Rattle.ivy_model.specs.declared.Row.{Row}
use Rattle.ivy_model.specs.stated.Legal.{HasWidth}
use Rattle.ivy_model.specs.Rows.{calls_of, numbers_in, row}
use Rattle.ivy_host.specs.stated.Managers.{Managed, managed_ops}
use Rattle.ivy_host.specs.Handing.{handing}
use Rattle.ivy_host.specs.stated.Hosts.{Host}
use Rattle.ivy_memory.specs.stated.Memories.{call_begun, in_progress}
use Rattle.ivy_memory.specs.BatchedCalls.{first_call, other_calls, row_begun, row_has_to_wait}
use Rattle.ivy_program.specs.OwnCode.{Rests}
use Rattle.ivy_program.proofs.running.Awaited.{row_wide, together_asks, together_along}
use Rattle.ivy_pagetable.specs.WordRows.{row_len}
use Rattle.ivy_site.specs.Calls.{BeginsRow, row_together}
use Rattle.ivy_site.specs.Handed.{site_handed}
use Rattle.ivy_site.specs.SiteView.{SiteView}
use Rattle.ivy_site.specs.Sites.{AreUsed, SiteTurns}
use Rattle.ivy_site.proofs.Calling.{IsCall, IsNumbered, begin_call, handing-used}

-- the calls of a row: the first, and the others
pub row_split : (kind : Row) (addr words : ℕ) (bytes : List ℕ) → 1 ≤ words
    → calls_of (row kind 0 addr (numbers_in words bytes))
    ≡ first_call kind addr bytes ∷ other_calls kind addr words bytes
row_split kind addr zero bytes some = absurd (omega (arith, some))
row_split kind addr (suc n) bytes some =
    ap (λ (k : ℕ). first_call kind addr bytes
    ∷ calls_of (row kind 0 (addr + 8) (numbers_in k (drop 8 bytes))))
    (let e : n ≡ suc n - 1 = omega arith in e)

module _ (h : Host Managed) (used : AreUsed h) (rests : Rests h.process)
    (idle : h.memory.asked ≡ None) where
  -- these calls are made together
  abbrev made : List Call → Host Managed
  made calls = handing (calls ∷ []) h

  together : (k : Call) (others : List Call) (number : ℕ) → All HasWidth (k ∷ others)
      → IsNumbered (made (k ∷ others)) number
      → IsCall (made (k ∷ others)) k (call_begun managed_ops h.memory k others number)
  together k others number wide n =
      subst (λ (ks : List Call). IsCall (made (k ∷ others)) k (call_begun managed_ops h.memory k ks number))
      (together_along h.process rests k others wide)
      (begin_call (made (k ∷ others)) k number n (handing-used ((k ∷ others) ∷ []) h used) idle (together_asks h.process rests k others wide))

  -- those of a row
  pub row_begins : (kind : Row) (addr words : ℕ) (bytes : List ℕ) (number : ℕ) → 1 ≤ words
      → IsNumbered (made (calls_of (row kind 0 addr (numbers_in words bytes)))) number
      → IsCall (made (calls_of (row kind 0 addr (numbers_in words bytes)))) (first_call kind addr bytes)
      (row_begun managed_ops h.memory kind addr words bytes number)
  row_begins kind addr words bytes number some n =
      let split = row_split kind addr words bytes some in
      subst (λ (ks : List Call). IsCall (made ks) (first_call kind addr bytes)
      (row_begun managed_ops h.memory kind addr words bytes number)) (sym split)
      (together (first_call kind addr bytes) (other_calls kind addr words bytes) number
      (subst (All HasWidth) split (row_wide kind 0 addr (numbers_in words bytes)))
      (record { is = n.is; below = n.below }))

-- the row that a site begins
pub begins_row : (n new : SiteView) (kind : Row) (addr words : ℕ) (bytes : List ℕ) → 1 ≤ words
    → SiteTurns (site_handed (calls_of (row kind 0 addr (numbers_in words bytes)) ∷ []) n) new
    → new.node.core.history ≡ n.node.core.history
    → new.node.core.memory.asked ≡ Some (first_call kind addr bytes)
    → new.node.core.memory.along ≡ other_calls kind addr words bytes
    → BeginsRow (calls_of (row kind 0 addr (numbers_in words bytes))) n new
begins_row n new kind addr words bytes some turns recorded asked along =
    let split = row_split kind addr words bytes some in
    subst (λ (ks : List Call). BeginsRow ks n new) (sym split)
    (record {
      turns = subst (λ (ks : List Call). SiteTurns (site_handed (ks ∷ []) n) new) split turns;
      recorded = recorded;
      waits = (λ j. in_progress (asked j) (along j));
    })

-- how many calls it has, as the code has it
pub together_is : (n v : SiteView) → v ≡ n → (kind : Row) (addr words len many : ℕ)
    → row_has_to_wait v.node.core.memory kind addr ≡ true → (c : Config) → c ≡ v.config
    → many ≡ min words (row_len c.page_size (addr % c.page_size) len)
    → row_together n kind addr words len ≡ many
together_is n v same kind addr words len many waits c config is =
    ap (λ (s : SiteView). row_together s kind addr words len) (sym same)
    ∙ ap (λ b. if b then min words (row_len v.config.page_size (addr % v.config.page_size) len) else 0)
    waits
    ∙ ap (λ (k : Config). min words (row_len k.page_size (addr % k.page_size) len)) (sym config)
    ∙ sym is
