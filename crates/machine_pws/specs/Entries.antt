-- Entries, in which FF stands for any value of its place, and what is above them (document 01, "Above").
use Rattle.std.specs.Prelude.{ℕ, ◌<◌, ◌≤◌, ◌≡◌, ◌⊎◌, List, [], ◌∷◌, length, get_or}
use Rattle.machine_pws.specs.declared.Message.{Message}
use Rattle.machine_pws.specs.Program.{Shape, Program}
use Rattle.machine_pws.specs.Machine.{Memory, Configuration}
use Rattle.machine_pws.specs.Configurations.{Fits, ValueOf, StatesOf}
use Rattle.machine_pws.specs.Order.{Below}

abbrev pub FF : ℕ
FF = 255

-- an entry has the form of a configuration whose values may be FF
abbrev pub ValueOrFF : Shape → ℕ → ℕ → Type 0
ValueOrFF S v x = (x ≡ FF) ⊎ (x < S.values v)

-- FF is no value, so that a cube can have each value alone: asked for where a step must be said that leads above an entry (number 11)
abbrev pub NoValueIsFF : Shape → Type 0
NoValueIsFF S = (v : ℕ) → v < S.variables → S.values v ≤ FF

pub record EntryOf (P : Program) (e : Configuration) : Type 0 where
  pub states : StatesOf P e.state
  pub fits : Fits (ValueOrFF P.shape) P.shape e

-- ---- filling in

-- b may stand where the entry has a
abbrev pub Fill : ℕ → ℕ → Type 0
Fill a b = (a ≡ FF) ⊎ (a ≡ b)

pub data FillValues : List ℕ → List ℕ → Type 0 where
  values_nil : FillValues [] []
  values_cons : {a b : ℕ} {xs ys : List ℕ} → Fill a b → FillValues xs ys → FillValues (a ∷ xs) (b ∷ ys)

pub record FillMessage (e m : Message) : Type 0 where
  pub process : e.process ≡ m.process
  pub variable : e.variable ≡ m.variable
  pub snapshot : FillValues e.snapshot m.snapshot

pub data FillChannel : List Message → List Message → Type 0 where
  channel_nil : FillChannel [] []
  channel_cons : {e m : Message} {es ms : List Message} → FillMessage e m → FillChannel es ms → FillChannel (e ∷ es) (m ∷ ms)

-- the entry e with these queues and this channel; local states and pointers are its own
abbrev pub filled : Configuration → (ℕ → ℕ → List ℕ) → List Message → Configuration
filled e qs ms = record { state = e.state; queue = qs; memory = record { channel = ms; pointer = e.memory.pointer } }

-- that is a filling in of e, by values of the shape
pub record Filling (S : Shape) (e : Configuration) (qs : ℕ → ℕ → List ℕ) (ms : List Message) : Type 0 where
  pub queues : (p v : ℕ) → p < S.processes → v < S.variables → FillValues (e.queue p v) (qs p v)
  pub channel : FillChannel e.memory.channel ms
  pub fits : Fits (ValueOf S) S (filled e qs ms)

-- ---- above an entry, and above a list

-- some filling in of e is below d
pub record Above (S : Shape) (e d : Configuration) : Type 0 where
  pub queues : ℕ → ℕ → List ℕ
  pub channel : List Message
  pub filling : Filling S e queues channel
  pub below : Below S (filled e queues channel) d

abbrev pub no_entry : Configuration
no_entry = record { state = λ p. 0; queue = λ p v. []; memory = record { channel = []; pointer = λ p. 0 } }

-- the entry of number k
abbrev pub entry : List Configuration → ℕ → Configuration
entry es k = get_or es k no_entry

-- d is above the list: above one of its entries
pub record AboveList (S : Shape) (es : List Configuration) (d : Configuration) : Type 0 where
  pub number : ℕ
  pub exists : number < length es
  pub above : Above S (entry es number) d
