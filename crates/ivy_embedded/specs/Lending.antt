-- What pages of a node are lent for to its program.
use Rattle.std.specs.Prelude.{◌≡◌, ◌≤◌, ℕ, Bool, true, false, not, List, length, slice_get, slice_index_or, Option, Some, None}
use Rattle.ivy_model.specs.declared.Call.{Call}
use Rattle.ivy_model.specs.declared.Call.TheVariants.{Load}
use Rattle.ivy_model.specs.declared.Row.{Row}
use Rattle.ivy_model.specs.declared.Row.TheVariants.{Loads, Stores}
use Rattle.ivy_pagetable.specs.declared.Access.{Access}
use Rattle.ivy_pagetable.specs.declared.Access.TheVariants.{Nil, Read, Write}
use Rattle.ivy_pagetable.specs.declared.Word.{Word}
use Rattle.ivy_pagetable.specs.stated.Accesses.{reads, writes}
use Rattle.ivy_pagetable.specs.stated.Tables.{entry_at}
use Rattle.ivy_pagetable.specs.stated.Words.{needs_write}
use Rattle.ivy_coherence.specs.declared.leaving.Leaving.{Leaving}
use Rattle.ivy_coherence.specs.Leavings.{access_at}
use Rattle.ivy_memory.specs.declared.memory.Asked.{Asked}
use Rattle.ivy_memory.specs.declared.memory.Asked.TheVariants as asked
use Rattle.ivy_memory.specs.stated.Asking.{asked_of}
use Rattle.ivy_program.specs.stated.Programs.{Program, Written, Called, calls_in}
use Rattle.ivy_program.specs.stated.InstructionSteps.{Process}
use Rattle.ivy_site.specs.Leavings.{Leaves}
use Rattle.ivy_site.specs.SiteView.{SiteView}
use Rattle.ivy_embedded.specs.declared.lending.Lending.{Lending}
use Rattle.ivy_embedded.specs.declared.lending.Lending.TheVariants.{Unlent, ToRead, ToWrite}
use Rattle.ivy_embedded.specs.declared.lending.Want.{Want}
use Rattle.ivy_embedded.specs.Nodes.{Embedded}

-- the page is lent
abbrev pub is_lent : Lending → Bool
is_lent Unlent = false
is_lent ToRead = true
is_lent ToWrite = true

-- one, for a page that is lent
abbrev pub one_if_lent : Lending → ℕ
one_if_lent Unlent = 0
one_if_lent ToRead = 1
one_if_lent ToWrite = 1

-- it is lent for more than this
abbrev pub is_more : Lending → Lending → Bool
is_more Unlent that = false
is_more ToRead that = not (is_lent that)
is_more ToWrite ToWrite = false
is_more ToWrite that = true

-- what a page is lent for; beyond the pages nothing
abbrev pub lending_in : List Lending → ℕ → Lending
lending_in lent page = slice_index_or lent page Unlent

-- the access to a page is enough to lend it so
abbrev pub suffices_for : Access → Lending → Bool
suffices_for access Unlent = true
suffices_for access ToRead = reads access
suffices_for access ToWrite = writes access

-- and so it is where a word may wait, but at no page that is lent
abbrev pub is_had : Option Access → Lending → Bool
is_had access Unlent = true
is_had None lending = false
is_had (Some access) lending = suffices_for access lending

-- what a page may be lent for with this access
abbrev pub left_for : Access → Lending
left_for Nil = Unlent
left_for Read = ToRead
left_for Write = ToWrite

-- a call may be this word of a page that is so lent: a load may, of one that is only read
abbrev pub permits : Lending → Word → Bool
permits Unlent word = true
permits ToRead word = not (needs_write word)
permits ToWrite word = false

-- and so may words of a block that is carried out at once: stores, too, of one that is written
abbrev pub permits_row : Lending → Row → Bool
permits_row ToRead Stores = false
permits_row lending kind = true

-- what the page is lent for whose word is asked for
abbrev pub lending_asked : List Lending → Asked → Lending
lending_asked lent (asked.Word page word) = lending_in lent page
lending_asked lent a = Unlent

-- and whether that may be asked for, so lent
abbrev pub may_ask : List Lending → Asked → Bool
may_ask lent (asked.Word page word) = permits (lending_in lent page) word
may_ask lent a = true

-- the page whose word is asked for; else the first one, which is never lent
abbrev pub page_asked : Asked → ℕ
page_asked (asked.Word page word) = page
page_asked a = 0

-- the calls that own code has made
abbrev pub calls_made : Program → List Call
calls_made (Written instructions) = List.[]
calls_made (Called rows fs) = calls_in rows

-- the program has made this call, and has no reply to it yet
pub record HasUnanswered (p : Process) (call : Call) : Type 0 where
  pub place : ℕ
  pub from : p.state.place ≤ place
  pub made : slice_get (calls_made p.program) place ≡ Some call

module _ (s : Embedded) where
  -- what a page is lent for
  abbrev pub lending_at : ℕ → Lending
  lending_at = lending_in s.lent

  -- what is had of a page
  abbrev pub access_to : ℕ → Option Access
  access_to page = access_at (entry_at s.site.node.core.memory.coherence.table page)

  -- what the page is lent for at which words of 8 bytes begin at an address, if such are there
  abbrev pub row_lending : ℕ → Lending
  row_lending addr = lending_asked s.lent (asked_of s.site.config (Load 8 addr))

  -- the call may be made, as its page is lent
  abbrev pub may_call : Call → Bool
  may_call call = may_ask s.lent (asked_of s.site.config call)

  -- a call that has no reply yet is a word of the page
  pub record WaitsFor (page : ℕ) : Type 0 where
    pub call : Call
    pub unanswered : HasUnanswered s.site.node.core.process call
    pub of : page_asked (asked_of s.site.config call) ≡ page

  -- No word waits at a page that is lent, and the access to it is enough. The first page is not lent,
  -- and no call without a reply is one that may not be made.
  pub record LendsSoundly : Type 0 where
    pub each : length s.lent ≡ s.site.config.pages
    pub first : lending_at 0 ≡ Unlent
    pub had : (page : ℕ) → is_had (access_to page) (lending_at page) ≡ true
    pub calls : (call : Call) → HasUnanswered s.site.node.core.process call → may_call call ≡ true

  -- the string, delivered now, would take access to this page that it is lent for, and this is what
  -- it may be lent for after that
  pub record IsWanted (bytes : List ℕ) (want : Want) : Type 0 where
    pub left : Leaving
    pub leaves : Leaves s.site bytes left
    pub page : want.page ≡ left.page
    pub on : want.on ≡ left_for left.access
    pub more : is_more (lending_at left.page) (left_for left.access) ≡ true
