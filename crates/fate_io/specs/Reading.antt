-- What a read of a shelf gives, and the names that failed after it.
use Rattle.std.specs.Prelude.{◌≡◌, ℕ, ◌<◌, ◌≤◌, List, [], ◌∷◌, ◌++◌, length, None, Some, Ok, Err, IfSome, IsSomeAnd, option_map}
use Rattle.std.specs.declared.option.Option.{Option}
use Rattle.std.specs.declared.result.Result.{Result}
use Rattle.std.specs.Io.KnownBytes.{Consumes, IsAtEnd}
use Rattle.fate_io.specs.Causes.{Rose}
use Rattle.fate_io.specs.declared.shelves.ShelfFault.{ShelfFault}
use Rattle.fate_io.specs.declared.shelves.ShelfFault.TheVariants.{Failed, Long, NoMemory}

-- what a shelf tells of a name: nothing, or that nothing is there, or the bytes that are
abbrev pub Held : Type 0
Held = Option (Option (List ℕ))

-- what a shelf shows of a call: what it tells of each name, and the names of failed reads before and after
pub record Looked : Type 0 where
  pub held : List ℕ → Held
  pub failed_before : List (List ℕ)
  pub failed : List (List ℕ)

-- what a shelf shows of a call that began with the first of these two
abbrev pub looked_since : {S : Type 0} → (S → List ℕ → Held) → (S → List (List ℕ)) → S → S → Looked
looked_since held failed first now =
    record { held = held first; failed_before = failed first; failed = failed now }

-- a read that failed adds its name at the end of those that failed, and every other read leaves them
abbrev pub FailedAfter : {T : Type 0} → List (List ℕ) → List (List ℕ) → List ℕ → Result T ShelfFault → Type 0
FailedAfter old new name (Ok x) = new ≡ old
FailedAfter old new name (Err Failed) = new ≡ old ++ name ∷ []
FailedAfter old new name (Err Long) = new ≡ old
FailedAfter old new name (Err NoMemory) = new ≡ old

-- a read gives the whole content where it is short enough, and nothing after a fault; what is told of the name agrees with it
abbrev pub ReadGives : {T : Type 0} → Held → ℕ → List ℕ → Result T ShelfFault → Type 0
ReadGives held most into (Ok x) = (length into ≤ most) × IfSome held (λ content. content ≡ Some into)
ReadGives held most into (Err Failed) = into ≡ []
ReadGives held most into (Err Long) = (into ≡ []) × IfSome held (λ content. IsSomeAnd content (λ bytes. most < length bytes))
ReadGives held most into (Err NoMemory) = into ≡ []

-- what a reader shows: the bytes that it has left, where those are told, and how many reads failed
pub record ReaderView : Type 0 where
  pub rest : Option (List ℕ)
  pub faults : ℕ

-- a reader gave all that it had left, or more than was asked for, or a read failed; these bytes were read
abbrev pub GivesRest : {T : Type 0} → ReaderView → ReaderView → ℕ → List ℕ → Result T ShelfFault → Type 0
GivesRest old new most bytes (Ok x) = (length bytes ≤ most) × Consumes old.rest new.rest bytes × IsAtEnd new.rest
GivesRest old new most bytes (Err Failed) = Rose old.faults new.faults
GivesRest old new most bytes (Err Long) = (most < length bytes) × Consumes old.rest new.rest bytes
GivesRest old new most bytes (Err NoMemory) = Unit {0}

-- what an opening tells of its name: that nothing is there, or what the opened reader has left
abbrev pub opened_holds : Option ReaderView → Held
opened_holds None = Some None
opened_holds (Some reader) = option_map Some reader.rest

-- the opening failed, or a read of what was opened: its count of faults rose
abbrev pub HasFailed : Option ReaderView → Option ReaderView → Type 0
HasFailed None now = Unit {0}
HasFailed (Some reader) now = IsSomeAnd now (λ after. Rose reader.faults after.faults)
