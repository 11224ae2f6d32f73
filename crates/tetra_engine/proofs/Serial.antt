-- How the outputs of a series are written, and how its run ends.
use Rattle.std.proofs.Common.{◌≡◌, ◌≢◌, ℕ, zero, suc, ◌+◌, ◌<◌, List, [], ◌∷◌, ◌++◌, take, refl, ap, sym, ◌∙◌, inl, inr, arith, append_assoc, append-nil, None, Some, subst}
use Rattle.std.specs.declared.option.Option.{Option}
use Rattle.std.specs.Io.KnownBytes.{Appends}
use Rattle.std.specs.List.{flat_map, range_with_len}
use Rattle.std.proofs.lemmas.Grind.{flat_map-append}
use Rattle.tetra_io.specs.Streams.{KeepsOrHides}
use Rattle.tetra_io.specs.Filling.{AddsFront}
use Rattle.tetra_engine.specs.declared.status.End.{End}
use Rattle.tetra_engine.specs.declared.status.Status.{Status}
use Rattle.tetra_engine.specs.declared.status.Status.TheVariants.{Done, Refused, Words, TooLong, Input, Read, Write}
use Rattle.tetra_engine.specs.Outcomes.{TookBefore, Grows}
use Rattle.tetra_engine.specs.Series.{Series, SeriesEnds, SeriesFront, IsFrontOfOutput, first_outputs}
use Rattle.tetra_engine.proofs.Runs.{grows_on}

range-push : (a n : ℕ) → range_with_len a (suc n) ≡ range_with_len a n ++ (a + n) ∷ []
range-push a zero = let e : a + 0 ≡ a = omega arith in ap (λ k. k ∷ []) (sym e)
range-push a (suc n) =
    let e : a + 1 + n ≡ a + suc n = omega arith in
    ap (λ l. a ∷ l) (range-push (a + 1) n ∙ ap (λ k. range_with_len (a + 1) n ++ k ∷ []) e)

-- one output more
pub outputs-push : (series : Series) (k : ℕ) → first_outputs series (k + 1) ≡ first_outputs series k ++ series.out k
outputs-push series k =
    let e : 0 + k ≡ k = omega arith in
    let more : k + 1 ≡ suc k = omega arith in
    ap (flat_map series.out) (ap (range_with_len 0) more ∙ range-push 0 k ∙ ap (λ n. range_with_len 0 k ++ n ∷ []) e)
    ∙ flat_map-append series.out (range_with_len 0 k) (k ∷ [])
    ∙ ap (λ l. first_outputs series k ++ l) (append-nil (series.out k))

-- the front of an output that a failed write took
front_written : (series : Series) (k : ℕ) (t0 t1 t2 : Option (List ℕ)) → k < series.count → Appends t0 t1 (first_outputs series k) → AddsFront t1 t2 (series.out k)
    → (front : List ℕ) × IsFrontOfOutput series k front × Grows t0 t2 (first_outputs series k ++ front)
front_written series k None t1 t2 below wrote adds = ([], inl refl, tt)
front_written series k (Some a) t1 None below wrote adds = ([], inl refl, tt)
front_written series k (Some a) None (Some c) below wrote adds = absurd wrote
front_written series k (Some a) (Some b) (Some c) below wrote adds =
    let (n, short, is) = adds in (
      take n (series.out k),
      inr (n, below, short, refl),
      is ∙ ap (λ l. l ++ take n (series.out k)) wrote ∙ append_assoc a (first_outputs series k) (take n (series.out k)),
    )

-- what a failed write leaves
pub write_front : (series : Series) (k : ℕ) (t0 t1 t2 : Option (List ℕ)) → k < series.count → Appends t0 t1 (first_outputs series k) → AddsFront t1 t2 (series.out k)
    → SeriesFront series (Grows t0 t2) (record { status = Write; slots = series.slots k })
write_front series k t0 t1 t2 below wrote adds =
    let (front, next, grows) = front_written series k t0 t1 t2 below wrote adds in
    record { k = k; front = front; few = omega arith; next = next; slots = refl; output = grows }

-- a flush that fails
pub flush_front : (status : Status) (series : Series) (t0 t1 t2 : Option (List ℕ)) (end : End)
    → SeriesEnds status series (TookBefore status t0 t1) end → status ≢ Write → KeepsOrHides t1 t2
    → SeriesFront series (Grows t0 t2) (record { status = Write; slots = end.slots })
flush_front Done series t0 t1 t2 end out other kept =
    record { k = series.count; front = []; few = omega arith; next = inl refl; slots = out.slots; output = grows_on t0 t1 t2 _ out.output kept }
flush_front Write series t0 t1 t2 end out other kept = absurd (other refl)
flush_front (Refused slot count) series t0 t1 t2 end out other kept = absurd out
flush_front (Words index why) series t0 t1 t2 end out other kept = absurd out
flush_front (Input slot why) series t0 t1 t2 end out other kept = absurd out
flush_front Read series t0 t1 t2 end out other kept = absurd out
flush_front TooLong series t0 t1 t2 end out other kept = absurd out

-- and one that does not
pub flush_done : (status : Status) (series : Series) (t0 t1 t2 : Option (List ℕ)) (end : End)
    → SeriesEnds status series (TookBefore status t0 t1) end → status ≢ Write → KeepsOrHides t1 t2
    → SeriesEnds status series (Grows t0 t2) end
flush_done Done series t0 t1 t2 end out other kept =
    record { done = out.done; slots = out.slots; output = subst (Grows t0 t2) (append-nil (first_outputs series series.count)) (grows_on t0 t1 t2 _ out.output kept) }
flush_done Write series t0 t1 t2 end out other kept = absurd (other refl)
flush_done (Refused slot count) series t0 t1 t2 end out other kept = absurd out
flush_done (Words index why) series t0 t1 t2 end out other kept = absurd out
flush_done (Input slot why) series t0 t1 t2 end out other kept = absurd out
flush_done Read series t0 t1 t2 end out other kept = absurd out
flush_done TooLong series t0 t1 t2 end out other kept = absurd out
