-- What the program says and ends with.
use Rattle.std.specs.Prelude.{◌⊎◌, ℕ, List, [], ◌∷◌, ◌++◌, codes}
use Rattle.std.specs.Io.KnownBytes.{Appends}
use Rattle.std.specs.declared.option.Option.{Option}
use Rattle.tetra_io.specs.Streams.{Rose}
use Rattle.tetra_engine.specs.Lines.{line_of, exit_code_of}
use Rattle.tetra_cli.specs.declared.ending.Ending.{Ending}
use Rattle.tetra_cli.specs.declared.ending.Ending.TheVariants.{NoWords as HasNoWords, Ran}
use Rattle.tetra_cli.specs.declared.no_words.NoWords.{NoWords}
use Rattle.tetra_cli.specs.declared.no_words.NoWords.TheVariants.{Memory, System}

-- where it has no words
abbrev pub no_words_text : NoWords → List ℕ
no_words_text Memory = codes "no memory for the words"
no_words_text System = codes "no words given"

abbrev pub no_words_code : NoWords → ℕ
no_words_code Memory = 7
no_words_code System = 9

-- at each end
abbrev pub ending_text : Ending → List ℕ
ending_text (HasNoWords cause) = no_words_text cause
ending_text (Ran end) = line_of end

abbrev pub ending_code : Ending → ℕ
ending_code (HasNoWords cause) = no_words_code cause
ending_code (Ran end) = exit_code_of end.status

-- a text with a newline behind it, or nothing where it is empty
abbrev pub spoken : List ℕ → List ℕ
spoken [] = []
spoken (c ∷ text) = (c ∷ text) ++ codes "\n"

-- these bytes were taken, all of them, or a write failed
abbrev pub IsWritten : Option (List ℕ) → Option (List ℕ) → ℕ → ℕ → List ℕ → Type 0
IsWritten old new before now bytes = Appends old new bytes ⊎ Rose before now
