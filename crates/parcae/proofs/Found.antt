-- What is read of what clap found.
use Rattle.std.proofs.Common.{◌≡◌, ◌⊎◌, List, [], ◌∷◌, Bool, false, is_some, None, Some, refl, ap, inl, inr}
use Rattle.std.specs.Prelude.{option_and_then}
use Rattle.std.specs.declared.option.Option.{Option}
use Rattle.std.specs.Option.{option_map_or}
use Rattle.clap.specs.Facts.{explicit_source}
use Rattle.clap.specs.Kinds.{Kinds, IsAmong}
use Rattle.clap.specs.Walk.{Row}
use Rattle.clap.specs.declared.error.kind.ErrorKind.{ErrorKind}
use Rattle.clap.specs.declared.error.kind.ErrorKind.TheVariants.{OutOfMemory}
use Rattle.clap.specs.declared.parser.matches.MatchedArg.{MatchedArg}
use Rattle.clap.specs.declared.parser.matches.ValueSource.{ValueSource}
use Rattle.parcae.specs.Words.{where_taken}

-- whether an entry is given, by where its value comes from
abbrev pub by_source : Option MatchedArg → Bool
by_source entry = option_map_or (λ (a : MatchedArg). explicit_source a.source) entry false

-- an entry whose value has a source is given, unless by default
pub by_known : (entry : Option MatchedArg) (s : ValueSource) → option_and_then (λ (a : MatchedArg). a.source) entry ≡ Some s
    → by_source entry ≡ explicit_source (Some s)
by_known None s e = cc
by_known (Some a) s e = ap explicit_source e

-- an entry without a source is given
pub by_none : (entry : Option MatchedArg) → option_and_then (λ (a : MatchedArg). a.source) entry ≡ None → by_source entry ≡ is_some entry
by_none None e = refl
by_none (Some a) e = ap explicit_source e

-- words without a fault are taken
pub taken : (faults : Kinds) (read found : List Row) → faults ≡ [] → read ≡ found → Some read ≡ where_taken faults found
taken [] read found none same = ap Some same
taken (f ∷ fs) read found none same = cc

-- words whose fault is another than want of memory are not
pub not_taken : (kind : ErrorKind) (faults : Kinds) (found : List Row) → (kind ≡ OutOfMemory → ⊥) → (kind ≡ OutOfMemory) ⊎ IsAmong kind faults
    → None ≡ where_taken faults found
not_taken kind faults found other (inl memory) = absurd (other memory)
not_taken kind [] found other (inr among) = absurd among
not_taken kind (f ∷ fs) found other (inr among) = refl
