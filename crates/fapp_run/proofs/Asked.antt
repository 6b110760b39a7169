-- What the words ask for is in its ranges.
use Rattle.std.proofs.Common.{◌≡◌, ℕ, ◌≤◌, Bool, true, false, ◌&&◌, List, Option, None, Some, Result, Ok, Err, refl, subst, arith, leb, cond}
use Rattle.std.specs.Prelude.{IfSome, codes, option_and_then, unwrap_or}
use Rattle.std.proofs.lemmas.Bool.{and_parts, leb-true}
use Rattle.fapp_text.specs.Numbers.{number_of}
use Rattle.fapp_text.specs.declared.numeral.NumFault.{NumFault}
use Rattle.fapp_words.specs.declared.options.CheckOptions.{CheckOptions}
use Rattle.fapp_words.specs.declared.options.SolveOptions.{SolveOptions}
use Rattle.fapp_words.specs.declared.request.Request.{Request}
use Rattle.fapp_words.specs.declared.request.Request.TheVariants.{Solve, Check, Gen, Demo}
use Rattle.fapp_words.specs.declared.request.Seed.{Seed}
use Rattle.fapp_words.specs.Solving.{cert, fuel, given, names, pool, split, text_of, workers}
use Rattle.fapp_words.specs.Options.{IsCheck, IsPromised, ranged, within}
use Rattle.fapp_words.specs.Promises.{ArePromised, IsSeed}
use Rattle.fapp_run.specs.Answers.{AreOptions}
use Rattle.fapp_run.specs.Judgements.{AreCheckOptions}
use Rattle.fapp_run.specs.Made.{AreRequested, AreSeed}

-- a number in a range, where there is one
abbrev IsIn : ℕ → ℕ → Option ℕ → Type 0
IsIn low high o = IfSome o (λ n. (low ≤ n) × (n ≤ high))

within-in : (low high : ℕ) (r : Result ℕ NumFault) (o : Option ℕ) → within low high r ≡ Some o → IsIn low high o
within-in low high (Err fault) o e = absurd (cc)
within-in low high (Ok n) o e = by_range (leb low n && leb n high) refl e
  where
    some-is : (a b : Option ℕ) → Some a ≡ Some b → a ≡ b
    some-is a b e = cc

    by_range : (b : Bool) → (leb low n && leb n high) ≡ b → cond b (Some (Some n)) None ≡ Some o → IsIn low high o
    by_range true h e =
        let parts = and_parts (leb low n) (leb n high) h in
        subst (IsIn low high) (some-is (Some n) o e) (leb-true low n parts.0, leb-true n high parts.1)
    by_range false h e = absurd (cc)

ranged-in : (low high : ℕ) (text : Option (List ℕ)) (o : Option ℕ) → ranged low high text ≡ Some o → IsIn low high o
ranged-in low high None None e = tt
ranged-in low high None (Some n) e = absurd (cc)
ranged-in low high (Some text) o e = within-in low high (number_of text) o e

or-in : (low high d : ℕ) (o : Option ℕ) → low ≤ d → d ≤ high → IsIn low high o → (low ≤ unwrap_or o d) × (unwrap_or o d ≤ high)
or-in low high d None least most h = (least, most)
or-in low high d (Some n) least most h = h

fuel-in : (o : Option ℕ) → IsIn 0 1000000 o → IfSome o (λ n. n ≤ 1000000)
fuel-in None h = tt
fuel-in (Some n) h = h.1

options-given : (w f s p v : Option (Option ℕ)) (only : Bool) (options : SolveOptions) → ((o : Option ℕ) → w ≡ Some o → IsIn 1 32 o) → ((o : Option ℕ) → f ≡ Some o → IsIn 0 1000000 o) → ((o : Option ℕ) → s ≡ Some o → IsIn 1 4096 o) → ((o : Option ℕ) → p ≡ Some o → IsIn 0 65536 o) → ((o : Option ℕ) → v ≡ Some o → IsIn 1 2 o) →
    option_and_then (λ w'. option_and_then (λ f'. option_and_then (λ s'. option_and_then (λ p'. option_and_then (λ v'. Some (record { workers = unwrap_or w' 4; fuel = f'; split = unwrap_or s' 64; pool = unwrap_or p' 4096; cert = unwrap_or v' 1; answer_only = only })) v) p) s) f) w ≡ Some options → AreOptions options
options-given None f s p v only options hw hf hs hp hv e = absurd (cc)
options-given (Some w) None s p v only options hw hf hs hp hv e = absurd (cc)
options-given (Some w) (Some f) None p v only options hw hf hs hp hv e = absurd (cc)
options-given (Some w) (Some f) (Some s) None v only options hw hf hs hp hv e = absurd (cc)
options-given (Some w) (Some f) (Some s) (Some p) None only options hw hf hs hp hv e = absurd (cc)
options-given (Some w) (Some f) (Some s) (Some p) (Some v) only options hw hf hs hp hv e = subst AreOptions (some-is _ options e) (record {
  some_workers = (or-in 1 32 4 w (omega arith) (omega arith) (hw w refl)).0;
  few_workers = (or-in 1 32 4 w (omega arith) (omega arith) (hw w refl)).1;
  fuel = fuel-in f (hf f refl);
  some_prefixes = (or-in 1 4096 64 s (omega arith) (omega arith) (hs s refl)).0;
  few_prefixes = (or-in 1 4096 64 s (omega arith) (omega arith) (hs s refl)).1;
  rows = (or-in 0 65536 4096 p (omega arith) (omega arith) (hp p refl)).1;
  some_version = (or-in 1 2 1 v (omega arith) (omega arith) (hv v refl)).0;
  few_versions = (or-in 1 2 1 v (omega arith) (omega arith) (hv v refl)).1;
})
  where
    some-is : (a b : SolveOptions) → Some a ≡ Some b → a ≡ b
    some-is a b e = cc

solve-in : (words : List (List ℕ)) (options : SolveOptions) → IsPromised words options → AreOptions options
solve-in words options h =
    let w = given (text_of workers) h.pieces in
    let f = given (text_of fuel) h.pieces in
    let s = given (text_of split) h.pieces in
    let p = given (text_of pool) h.pieces in
    let v = given (text_of cert) h.pieces in
    options-given (ranged 1 32 w) (ranged 0 1000000 f) (ranged 1 4096 s) (ranged 0 65536 p) (ranged 1 2 v) (names (codes "answer-only") h.pieces) options
    (ranged-in 1 32 w) (ranged-in 0 1000000 f) (ranged-in 1 4096 s) (ranged-in 0 65536 p) (ranged-in 1 2 v) h.values

check-given : (w : Option (Option ℕ)) (options : CheckOptions) → ((o : Option ℕ) → w ≡ Some o → IsIn 1 32 o) → option_and_then (λ w'. Some (record { workers = unwrap_or w' 1 })) w ≡ Some options → AreCheckOptions options
check-given None options hw e = absurd (cc)
check-given (Some w) options hw e = subst AreCheckOptions (some-is _ options e) (record {
  some_workers = (or-in 1 32 1 w (omega arith) (omega arith) (hw w refl)).0;
  few_workers = (or-in 1 32 1 w (omega arith) (omega arith) (hw w refl)).1;
})
  where
    some-is : (a b : CheckOptions) → Some a ≡ Some b → a ≡ b
    some-is a b e = cc

check-in : (words : List (List ℕ)) (options : CheckOptions) → IsCheck words options → AreCheckOptions options
check-in words options h =
    let w = given (text_of workers) h.pieces in
    check-given (ranged 1 32 w) options (ranged-in 1 32 w) h.values

seed-in : (name : List ℕ) (words : List (List ℕ)) (seed : Seed) → IsSeed name words seed → AreSeed seed
seed-in name words seed h =
    let number = ranged-in 0 1000000000 (Some h.number) (Some seed.number) h.number_value in
    let paths = ranged-in 2 2000 (Some h.paths) (Some seed.paths) h.paths_value in
    record { number = number.1; some_paths = paths.0; few_paths = paths.1 }

pub asked-in : (words : List (List ℕ)) (request : Request) → ArePromised words request → AreRequested request
asked-in words (Solve options) h = solve-in words options h
asked-in words (Check options) h = check-in words options h
asked-in words (Gen seed) h = seed-in _ words seed h
asked-in words (Demo seed) h = seed-in _ words seed h
