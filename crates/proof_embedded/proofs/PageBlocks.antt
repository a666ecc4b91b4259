-- A whole page, by its words in a buffer.
use Rattle.std.proofs.Common.{◌≡◌, ℕ, ◌+◌, ◌*◌, ◌/◌, ◌%◌, ◌<◌, ◌≤◌, List, length, take, drop, refl, sym, ap, ◌∙◌, arith}
use Rattle.std.proofs.lemmas.List.{take_all}
use Rattle.std.proofs.lemmas.Nat.{div-mul-add, mod-mul-add}
use Rattle.ivy_model.specs.declared.Config.{Config}
use Rattle.ivy_model.specs.stated.Config.{IsConfig}
use Rattle.ivy_model.specs.Rows.{numbers_in}
use Rattle.ivy_model.proofs.Limits.{page_has_words}
use Rattle.ivy_pagetable.specs.stated.Tables.{page_at}
use Rattle.ivy_memory.proofs.batches.CallsTold.{bytes_told}
use Rattle.ivy_embedded.specs.Nodes.{Embedded}
use Rattle.proof_embedded.specs.Driven.{node_in}
use Rattle.proof_embedded.specs.Mapped.{BlocksArePages, bytes_at}

module _ (c : Config) (limits : IsConfig c) (e : Embedded) (same : e.site.config ≡ c) (page : ℕ) where
  abbrev words : ℕ
  words = c.page_size / 8

  size : e.site.config.page_size ≡ c.page_size
  size = ap (λ (k : Config). k.page_size) same

  some : 0 < c.page_size
  some = let w = (page_has_words c.page_size limits.page_size).least in omega (arith, w)

  start : page * c.page_size ≡ page * c.page_size + 0
  start = omega arith

  of_page : page * c.page_size / e.site.config.page_size ≡ page
  of_page = (λ j. start j / size j) ∙ div-mul-add page c.page_size 0 some

  at_start : page * c.page_size % e.site.config.page_size ≡ 0
  at_start = (λ j. start j % size j) ∙ mod-mul-add page c.page_size 0 some

  whole : 8 * words ≡ c.page_size
  whole = sym (page_has_words c.page_size limits.page_size).words

  inside : page * c.page_size % e.site.config.page_size + 8 * words ≤ e.site.config.page_size
  inside = let a = at_start in let s = size in let w = whole in omega (arith, a, s, w)

  numbers : (buffer : List ℕ)
      → numbers_in words (drop (page * c.page_size % e.site.config.page_size)
      (page_at (node_in e).core.memory.coherence.table (page * c.page_size / e.site.config.page_size)))
      ≡ numbers_in words buffer
      → numbers_in words buffer ≡ numbers_in words (bytes_at e page)
  numbers buffer h =
      sym h
      ∙ (λ j. numbers_in words (drop (at_start j)
      (page_at (node_in e).core.memory.coherence.table (of_page j))))

pub blocks_are_pages : BlocksArePages
blocks_are_pages c limits e same page buffer given there words =
    let n = c.page_size / 8 in
    let w = whole c limits e same page in
    let long : length buffer ≤ 8 * n = (let l = given.0 in omega (arith, l, w)) in
    let long_there : length (bytes_at e page) ≤ 8 * n = (let l = there.0 in omega (arith, l, w)) in
    let fits : 8 * n ≤ length buffer = (let l = given.0 in omega (arith, l, w)) in
    let fits_there : 8 * n ≤ length (bytes_at e page) = (let l = there.0 in omega (arith, l, w)) in
    sym (take_all (8 * n) buffer long)
    ∙ bytes_told n buffer (bytes_at e page)
    (numbers c limits e same page buffer (words (inside c limits e same page))) fits fits_there
    given.1 there.1
    ∙ take_all (8 * n) (bytes_at e page) long_there
