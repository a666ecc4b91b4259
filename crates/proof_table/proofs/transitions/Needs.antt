-- What a letter needs of the entry of its origin, and what its key tells of it.
use Rattle.std.proofs.Common.{◌≡◌, ℕ, true, refl}
use Rattle.std.specs.FinSet as set
use Rattle.ivy_model.specs.declared.Config.{Config}
use Rattle.ivy_wire.specs.declared.Content.TheVariants as content
use Rattle.ivy_wire.specs.stated.Data.{Content}
use Rattle.ivy_pagetable.specs.declared.Entry.{Entry}
use Rattle.ivy_pagetable.specs.declared.Entry.TheVariants as entry
use Rattle.ivy_pagetable.specs.declared.PutOff.{PutOff}
use Rattle.ivy_pagetable.specs.declared.Request.{Request}
use Rattle.ivy_pagetable.specs.declared.Request.TheVariants as request
use Rattle.ivy_pagetable.specs.stated.States.{IdleState, WaitingState, AwaitWriteState, AwaitAcksState}
use Rattle.ivy_pagetable.specs.stated.Entries.{is_owner, with_put_off}
use Rattle.proof_table.specs.stated.Letters.{Letter, Net, content_of}
use Rattle.proof_table.specs.stated.Orderly.{AwaitsCopy, AwaitsPage, Collects, HasCopy, Key, Own, Order, Call, key_as, IsExpectedAs}

-- the page that a letter is about; none for the allocator's
abbrev pub page_of : Content → ℕ
page_of (content.ReadReq page) = page
page_of (content.WriteReq page) = page
page_of (content.ReadRep page bytes) = page
page_of (content.WriteRep page copies bytes) = page
page_of (content.Inval page) = page
page_of (content.InvalAck page) = page
page_of (content.AllocReq size) = 0
page_of (content.AllocRep code addr) = 0
page_of (content.FreeReq addr) = 0
page_of (content.FreeRep code) = 0

-- what is put off at a page's entry is about that page
pub put_about : (k : Request) (p : ℕ) → page_of (content_of k p) ≡ p
put_about request.Read p = refl
put_about request.Write p = refl
put_about request.Invalidate p = refl

abbrev pub Needs : Entry → Letter → Content → Type 0
Needs e l (content.ReadReq page) = AwaitsCopy e l.message.call
Needs e l (content.WriteReq page) = AwaitsPage e l.message.call
Needs e l (content.ReadRep page bytes) = AwaitsCopy e l.message.call
Needs e l (content.WriteRep page copies bytes) = AwaitsPage e l.message.call
Needs e l (content.Inval page) = Collects e l.message.call l.dest
Needs e l (content.InvalAck page) = Collects e l.message.call l.source
Needs e l (content.AllocReq size) = ⊥
Needs e l (content.AllocRep code addr) = ⊥
Needs e l (content.FreeReq addr) = ⊥
Needs e l (content.FreeRep code) = ⊥

pub needs : (c : Config) (n : Net) (l : Letter) (m : Content) → IsExpectedAs c n l m
    → Needs (n.entry l.message.origin (page_of m)) l m
needs c n l (content.ReadReq page) f = f.1
needs c n l (content.WriteReq page) f = f.1
needs c n l (content.ReadRep page bytes) f = f.2
needs c n l (content.WriteRep page copies bytes) f = f.2
needs c n l (content.Inval page) f = f.2
needs c n l (content.InvalAck page) f = f.2
needs c n l (content.AllocReq size) f = f
needs c n l (content.AllocRep code addr) f = f
needs c n l (content.FreeReq addr) f = f
needs c n l (content.FreeRep code) f = f

-- a letter fits another net too where its needs are met, and where no copy came to a node that gave
-- its own up
pub refit : (c : Config) (n n' : Net) (l : Letter) (m : Content) → IsExpectedAs c n l m
    → Needs (n'.entry l.message.origin (page_of m)) l m
    → ((q : ℕ) → m ≡ content.InvalAck q → HasCopy n' l.source q → HasCopy n l.source q)
    → IsExpectedAs c n' l m
refit c n n' l (content.ReadReq page) f need acks = (f.0, need)
refit c n n' l (content.WriteReq page) f need acks = (f.0, need)
refit c n n' l (content.ReadRep page bytes) f need acks = (f.0, f.1, need)
refit c n n' l (content.WriteRep page copies bytes) f need acks = (f.0, f.1, need, f.3)
refit c n n' l (content.Inval page) f need acks = (f.0, f.1, need)
refit c n n' l (content.InvalAck page) f need acks = (f.0, f.1, need, λ h. f.3 (acks page refl h))
refit c n n' l (content.AllocReq size) f need acks = f
refit c n n' l (content.AllocRep code addr) f need acks = f
refit c n n' l (content.FreeReq addr) f need acks = f
refit c n n' l (content.FreeRep code) f need acks = f

-- what each of the three ways to wait meets, the letter's need does
pub needs_met : (e e' : Entry) (l : Letter) (m : Content)
    → ((k : ℕ) → AwaitsCopy e k → AwaitsCopy e' k) → ((k : ℕ) → AwaitsPage e k → AwaitsPage e' k)
    → ((k node : ℕ) → Collects e k node → Collects e' k node) → Needs e l m → Needs e' l m
needs_met e e' l (content.ReadReq page) r w a f = r l.message.call f
needs_met e e' l (content.WriteReq page) r w a f = w l.message.call f
needs_met e e' l (content.ReadRep page bytes) r w a f = r l.message.call f
needs_met e e' l (content.WriteRep page copies bytes) r w a f = w l.message.call f
needs_met e e' l (content.Inval page) r w a f = a l.message.call l.dest f
needs_met e e' l (content.InvalAck page) r w a f = a l.message.call l.source f
needs_met e e' l (content.AllocReq size) r w a f = f
needs_met e e' l (content.AllocRep code addr) r w a f = f
needs_met e e' l (content.FreeReq addr) r w a f = f
needs_met e e' l (content.FreeRep code) r w a f = f

-- nobody waits at an idle entry
pub idle_needs : (s : IdleState) (l : Letter) (m : Content) → Needs (entry.Idle s) l m → ⊥
idle_needs s l (content.ReadReq page) f = f
idle_needs s l (content.WriteReq page) f = f
idle_needs s l (content.ReadRep page bytes) f = f
idle_needs s l (content.WriteRep page copies bytes) f = f
idle_needs s l (content.Inval page) f = f
idle_needs s l (content.InvalAck page) f = f
idle_needs s l (content.AllocReq size) f = f
idle_needs s l (content.AllocRep code addr) f = f
idle_needs s l (content.FreeReq addr) f = f
idle_needs s l (content.FreeRep code) f = f

-- where a copy or the page is awaited, each letter is the waiting word's own
pub read_key : (s : WaitingState) (l : Letter) (m : Content) → Needs (entry.AwaitRead s) l m
    → key_as l m ≡ Own l.message.origin (page_of m)
read_key s l (content.ReadReq page) f = refl
read_key s l (content.WriteReq page) f = absurd f
read_key s l (content.ReadRep page bytes) f = refl
read_key s l (content.WriteRep page copies bytes) f = absurd f
read_key s l (content.Inval page) f = absurd f
read_key s l (content.InvalAck page) f = absurd f
read_key s l (content.AllocReq size) f = absurd f
read_key s l (content.AllocRep code addr) f = absurd f
read_key s l (content.FreeReq addr) f = absurd f
read_key s l (content.FreeRep code) f = absurd f

pub write_key : (s : AwaitWriteState) (l : Letter) (m : Content) → Needs (entry.AwaitWrite s) l m
    → key_as l m ≡ Own l.message.origin (page_of m)
write_key s l (content.ReadReq page) f = absurd f
write_key s l (content.WriteReq page) f = refl
write_key s l (content.ReadRep page bytes) f = absurd f
write_key s l (content.WriteRep page copies bytes) f = refl
write_key s l (content.Inval page) f = absurd f
write_key s l (content.InvalAck page) f = absurd f
write_key s l (content.AllocReq size) f = absurd f
write_key s l (content.AllocRep code addr) f = absurd f
write_key s l (content.FreeReq addr) f = absurd f
write_key s l (content.FreeRep code) f = absurd f

-- where copies are given up, it is the order to one of the nodes that are left, or its
-- acknowledgement
pub acks_key : (s : AwaitAcksState) (l : Letter) (m : Content) → Needs (entry.AwaitAcks s) l m
    → (target : ℕ) × (key_as l m ≡ Order l.message.origin target (page_of m))
    × (set.contains s.left target ≡ true)
acks_key s l (content.ReadReq page) f = absurd f
acks_key s l (content.WriteReq page) f = absurd f
acks_key s l (content.ReadRep page bytes) f = absurd f
acks_key s l (content.WriteRep page copies bytes) f = absurd f
acks_key s l (content.Inval page) f = (l.dest, refl, f.1)
acks_key s l (content.InvalAck page) f = (l.source, refl, f.1)
acks_key s l (content.AllocReq size) f = absurd f
acks_key s l (content.AllocRep code addr) f = absurd f
acks_key s l (content.FreeReq addr) f = absurd f
acks_key s l (content.FreeRep code) f = absurd f

-- and it needs no more than that this node is left
pub acks_still : (s : AwaitAcksState) (left : set.FinSet _) (l : Letter) (m : Content)
    → Needs (entry.AwaitAcks s) l m
    → ((target : ℕ) → key_as l m ≡ Order l.message.origin target (page_of m)
    → set.contains s.left target ≡ true → set.contains left target ≡ true)
    → Needs (entry.AwaitAcks (record { left = left; waiting = s.waiting })) l m
acks_still s left l (content.ReadReq page) f still = f
acks_still s left l (content.WriteReq page) f still = f
acks_still s left l (content.ReadRep page bytes) f still = f
acks_still s left l (content.WriteRep page copies bytes) f still = f
acks_still s left l (content.Inval page) f still = (f.0, still l.dest refl f.1)
acks_still s left l (content.InvalAck page) f still = (f.0, still l.source refl f.1)
acks_still s left l (content.AllocReq size) f still = f
acks_still s left l (content.AllocRep code addr) f still = f
acks_still s left l (content.FreeReq addr) f still = f
acks_still s left l (content.FreeRep code) f still = f

-- who collects acknowledgements is the owner
pub collects_owner : (e : Entry) (k node : ℕ) → Collects e k node → is_owner e ≡ true
collects_owner (entry.Idle s) k node f = absurd f
collects_owner (entry.AwaitRead s) k node f = absurd f
collects_owner (entry.AwaitWrite s) k node f = absurd f
collects_owner (entry.AwaitAcks s) k node f = refl

-- to put a message off changes nothing of what is awaited
pub put_copy : (e : Entry) (q : PutOff) (k : ℕ) → AwaitsCopy e k → AwaitsCopy (with_put_off e q) k
put_copy (entry.Idle s) q k f = f
put_copy (entry.AwaitRead s) q k f = f
put_copy (entry.AwaitWrite s) q k f = f
put_copy (entry.AwaitAcks s) q k f = f

pub put_page : (e : Entry) (q : PutOff) (k : ℕ) → AwaitsPage e k → AwaitsPage (with_put_off e q) k
put_page (entry.Idle s) q k f = f
put_page (entry.AwaitRead s) q k f = f
put_page (entry.AwaitWrite s) q k f = f
put_page (entry.AwaitAcks s) q k f = f

pub put_acks : (e : Entry) (q : PutOff) (k node : ℕ) → Collects e k node
    → Collects (with_put_off e q) k node
put_acks (entry.Idle s) q k node f = f
put_acks (entry.AwaitRead s) q k node f = f
put_acks (entry.AwaitWrite s) q k node f = f
put_acks (entry.AwaitAcks s) q k node f = f

-- a key names the letter's origin, and its page
abbrev pub key_origin : Key → ℕ
key_origin (Own origin page) = origin
key_origin (Order origin target page) = origin
key_origin (Call origin) = origin

abbrev pub key_page : Key → ℕ
key_page (Own origin page) = page
key_page (Order origin target page) = page
key_page (Call origin) = 0

pub of_origin : (l : Letter) (m : Content) → key_origin (key_as l m) ≡ l.message.origin
of_origin l (content.ReadReq page) = refl
of_origin l (content.WriteReq page) = refl
of_origin l (content.ReadRep page bytes) = refl
of_origin l (content.WriteRep page copies bytes) = refl
of_origin l (content.Inval page) = refl
of_origin l (content.InvalAck page) = refl
of_origin l (content.AllocReq size) = refl
of_origin l (content.AllocRep code addr) = refl
of_origin l (content.FreeReq addr) = refl
of_origin l (content.FreeRep code) = refl

pub of_page : (l : Letter) (m : Content) → key_page (key_as l m) ≡ page_of m
of_page l (content.ReadReq page) = refl
of_page l (content.WriteReq page) = refl
of_page l (content.ReadRep page bytes) = refl
of_page l (content.WriteRep page copies bytes) = refl
of_page l (content.Inval page) = refl
of_page l (content.InvalAck page) = refl
of_page l (content.AllocReq size) = refl
of_page l (content.AllocRep code addr) = refl
of_page l (content.FreeReq addr) = refl
of_page l (content.FreeRep code) = refl
