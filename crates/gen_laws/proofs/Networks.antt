-- The text of a made network is read, line by line, as an instance, and it is short.
use Rattle.std.proofs.Common.{◌≡◌, ◌≢◌, ℕ, zero, suc, ◌+◌, ◌-◌, ◌*◌, ◌<◌, ◌≤◌, Bool, true, false, cond, List, [], ◌∷◌, ◌++◌, length, map, decimal, codes, Result, Ok, refl, sym, ap, subst, ◌∙◌, arith, length-append}
use Rattle.std.specs.List.{flat_map, range_with_len}
use Rattle.std.proofs.lemmas.List.{length-map}
use Rattle.std.proofs.lemmas.List.FromFn.{length-range_with_len}
use Rattle.fapp_model.specs.declared.instance.Instance.{Instance}
use Rattle.fapp_model.specs.declared.level.TheConstants.{LEVELS}
use Rattle.fapp_model.specs.Instances.{IsNumber}
use Rattle.fapp_text.specs.declared.failure.LineFault.{LineFault}
use Rattle.fapp_text.specs.Reading.{◌>>=◌}
use Rattle.record_reader.specs.declared.cause.Cause.{Cause}
use Rattle.record_reader.specs.Contents.{Contents, no_contents}
use Rattle.record_reader.specs.Entries.{imperative, compatible, entry_of}
use Rattle.record_reader.specs.Instances.{frequencies, paths_of, constraints_of, path_of, record_of, instance_of}
use Rattle.record_reader.specs.Texts.{instance_of_contents, instance_of_lines, instance_of_text}
use Rattle.record_reader.proofs.LawProofs.{valid_text}
use Rattle.fapp_gen.specs.Lines.{falling, line_text, numbered}
use Rattle.fapp_gen.specs.Generated.{domain_lines, path_line, distance_line, first_lines, fixed_by, disturbed_by, offset, stretch, is_odd, imperative_line, record_lines, network_lines, network_text}
use Rattle.gen_laws.specs.MadeLaws.{MadeNetworksAreInstances, MadeNetworksAreShort}
use Rattle.gen_laws.proofs.Cutting.{IsField, IsLine, lines_again, decimal_field, decimal_fields, text_short}
use Rattle.gen_laws.proofs.Says.{between, imperative_says, same_says, other_says, falling_count, falling_numbers, falling_falls}
use Rattle.gen_laws.proofs.Passing.{Passes, passes_none, passes_both, passes_from}
use Rattle.gen_laws.proofs.Stages.{HasDomains, HasLinks, domain_passes, begun, path_passes, constraint_passes}
use Rattle.gen_laws.proofs.Refusing.{network_free}

-- ---- domains

abbrev value_line : ℕ → ℕ → ℕ → List (List ℕ)
value_line domain first place = numbered (codes "DM") (domain ∷ (first + 10 * place) ∷ [])

further_values : (count first place n lines after : ℕ) → lines + n ≡ after → after ≤ 20 → first + 10 * (place + n) ≤ 4000 → count ≤ 2
    → Passes (HasDomains lines count) (map (value_line count first) (range_with_len place n)) (HasDomains after count)
further_values count first place zero lines after e few small two =
    let same : lines ≡ after = omega arith in
    subst (λ (k : ℕ). Passes (HasDomains lines count) [] (HasDomains k count)) same (passes_none (HasDomains lines count))
further_values count first place (suc n) lines after e few small two =
    passes_both (HasDomains lines count) (HasDomains (lines + 1) count) (HasDomains after count) (value_line count first place ∷ []) (map (value_line count first) (range_with_len (place + 1) n))
    (domain_passes lines count count (first + 10 * place) (omega arith) (omega arith) (omega arith) (omega arith))
    (further_values count first (place + 1) n (lines + 1) after (omega arith) few (omega arith) two)

-- all lines of a domain
values_pass : (earlier count first lines after : ℕ) → count ≡ earlier + 1 → lines + 10 ≡ after → after ≤ 20 → first ≤ 3000 → count ≤ 2
    → Passes (HasDomains lines earlier) (domain_lines count first) (HasDomains after count)
unfolding domain_lines
values_pass earlier count first lines after next e few small two =
    passes_both (HasDomains lines earlier) (HasDomains (lines + 1) count) (HasDomains after count) (value_line count first 0 ∷ []) (map (value_line count first) (range_with_len 1 9))
    (domain_passes lines earlier count (first + 10 * 0) (omega arith) (omega arith) (omega arith) (omega arith))
    (further_values count first 1 9 (lines + 1) after (omega arith) few (omega arith) two)

-- ---- paths

further_paths : (all place n count after : ℕ) → place ≡ count + 1 → count + n ≡ after → after ≤ 2000 → Passes (HasLinks all count 0) (map (λ path. path_line path 2) (range_with_len place n)) (HasLinks all after 0)
further_paths all place zero count after p e few =
    let same : count ≡ after = omega arith in
    subst (λ (k : ℕ). Passes (HasLinks all count 0) [] (HasLinks all k 0)) same (passes_none (HasLinks all count 0))
further_paths all place (suc n) count after p e few =
    passes_both (HasLinks all count 0) (HasLinks all (count + 1) 0) (HasLinks all after 0) (path_line place 2 ∷ []) (map (λ path. path_line path 2) (range_with_len (place + 1) n))
    (subst (λ (k : ℕ). Passes (HasLinks all count 0) (path_line k 2 ∷ []) (HasLinks all (count + 1) 0)) (sym p) (path_passes all count 2 (omega arith) (omega arith) (omega arith)))
    (further_paths all (place + 1) n (count + 1) after (omega arith) (omega arith) few)

paths_pass : (all : ℕ) → Passes (HasLinks all 0 0) first_lines (HasLinks all 2 0)
unfolding first_lines
paths_pass all =
    passes_both (HasLinks all 0 0) (HasLinks all 1 0) (HasLinks all 2 0) (path_line 1 1 ∷ []) (path_line 2 1 ∷ []) (path_passes all 0 1 (omega arith) (omega arith) (omega arith)) (path_passes all 1 1 (omega arith) (omega arith) (omega arith))

-- ---- records

-- the first two paths
abbrev IsHub : ℕ → Type 0
IsHub path = (1 ≤ path) × (path ≤ 2)

choice_hub : (odd : Bool) → IsHub (cond odd 1 2)
choice_hub true = (omega arith, omega arith)
choice_hub false = (omega arith, omega arith)

other_hub : (odd : Bool) → IsHub (cond odd 2 1)
other_hub true = (omega arith, omega arith)
other_hub false = (omega arith, omega arith)

word_field : (a b : ℕ) → 45 ≤ a → 45 ≤ b → IsField (a ∷ b ∷ [])
word_field a b h g = (omega arith, omega arith, (h, (g, tt)))

-- two paths below so many, the first of them one of the first two
pub record ArePair (all first second : ℕ) : Type 0 where
  pub hub : IsHub first
  pub later : first ≢ second
  pub some : 1 ≤ second
  pub within : second ≤ all
  pub first_within : first ≤ all
  pub few : all ≤ 2000

imperative_passes : (of_frequencies : Bool) (b all records first second n : ℕ) → 45 ≤ b → ((line : ℕ) → first ≢ second → IsNumber first → IsNumber second → IsNumber n
    → entry_of LEVELS line (imperative_line (b ∷ []) first second n) ≡ Ok (between first second (imperative of_frequencies true n) line)) → records < 8000 → ArePair all first second → n ≤ 4000
    → Passes (HasLinks all all records) (imperative_line (b ∷ []) first second n ∷ []) (HasLinks all all (records + 1))
unfolding imperative_line
imperative_passes of_frequencies b all records first second n high says few pair small =
    let f : IsNumber first = omega (arith, pair.first_within, pair.few) in
    let s : IsNumber second = omega (arith, pair.within, pair.few) in
    let m : IsNumber n = omega arith in
    constraint_passes all records first second (imperative of_frequencies true n) (codes "CI") (decimal first ∷ decimal second ∷ (b ∷ []) ∷ codes "E" ∷ decimal n ∷ [])
    few pair.hub.0 pair.first_within pair.some pair.within
    ((word_field 67 73 (omega arith) (omega arith), (decimal_field first f, (decimal_field second s, ((omega arith, omega arith, (high, tt)), ((omega arith, omega arith, (omega arith, tt)), (decimal_field n m, tt)))))), omega arith)
    (λ line. says line pair.later f s m)

distances_whole : (b first second top step : ℕ) → 45 ≤ b → IsNumber first → IsNumber second → IsNumber top → IsLine ((67 ∷ b ∷ []) ∷ decimal first ∷ decimal second ∷ map decimal (falling top step))
distances_whole b first second top step high f s t =
    ((word_field 67 b (omega arith) high, (decimal_field first f, (decimal_field second s, decimal_fields (falling top step) (falling_numbers top step t)))), omega (arith, length-map (falling top step) decimal, falling_count top step))

same_passes : (all records first second top step : ℕ) → records < 8000 → ArePair all first second → top ≤ 4000
    → Passes (HasLinks all all records) (distance_line (codes "CE") first second (falling top step) ∷ []) (HasLinks all all (records + 1))
unfolding distance_line
same_passes all records first second top step few pair small =
    let f : IsNumber first = omega (arith, pair.first_within, pair.few) in
    let s : IsNumber second = omega (arith, pair.within, pair.few) in
    let t : IsNumber top = omega arith in
    constraint_passes all records first second (compatible true (falling top step)) (codes "CE") (decimal first ∷ decimal second ∷ map decimal (falling top step))
    few pair.hub.0 pair.first_within pair.some pair.within (distances_whole 69 first second top step (omega arith) f s t)
    (λ line. same_says line first second (falling top step) pair.later f s (falling_count top step) (falling_numbers top step t) (falling_falls top step))

other_passes : (all records first second top step : ℕ) → records < 8000 → ArePair all first second → top ≤ 4000
    → Passes (HasLinks all all records) (distance_line (codes "CD") first second (falling top step) ∷ []) (HasLinks all all (records + 1))
unfolding distance_line
other_passes all records first second top step few pair small =
    let f : IsNumber first = omega (arith, pair.first_within, pair.few) in
    let s : IsNumber second = omega (arith, pair.within, pair.few) in
    let t : IsNumber top = omega arith in
    constraint_passes all records first second (compatible false (falling top step)) (codes "CD") (decimal first ∷ decimal second ∷ map decimal (falling top step))
    few pair.hub.0 pair.first_within pair.some pair.within (distances_whole 68 first second top step (omega arith) f s t)
    (λ line. other_says line first second (falling top step) pair.later f s (falling_count top step) (falling_numbers top step t) (falling_falls top step))

fixed_pair : (all path : ℕ) → 3 ≤ path → path ≤ all → all ≤ 2000 → ArePair all (fixed_by path) path
fixed_pair all path low high few =
    let hub = choice_hub (is_odd path) in
    record { hub = hub; later = λ same. omega (arith, hub.1, same); some = omega arith; within = high; first_within = omega (arith, hub.1); few = few }

disturbed_pair : (all path : ℕ) → 3 ≤ path → path ≤ all → all ≤ 2000 → ArePair all (disturbed_by path) path
disturbed_pair all path low high few =
    let hub = other_hub (is_odd path) in
    record { hub = hub; later = λ same. omega (arith, hub.1, same); some = omega arith; within = high; first_within = omega (arith, hub.1); few = few }

offset_small : (number path : ℕ) → offset number path ≤ 4000
offset_small number path = omega arith

stretch_small : (number path : ℕ) → stretch number path ≤ 90
stretch_small number path = omega arith

-- the four lines of a further path
records_pass : (number all records path : ℕ) → 3 ≤ path → path ≤ all → all ≤ 2000 → records + 4 ≤ 8000 → Passes (HasLinks all all records) (record_lines number path) (HasLinks all all (records + 4))
unfolding record_lines
records_pass number all records path low high few room =
    let fixed = fixed_pair all path low high few in
    let disturbed = disturbed_pair all path low high few in
    let one = imperative_passes true 70 all records (fixed_by path) path (offset number path) (omega arith) (λ line apart f s m. imperative_says true (codes "F") line (fixed_by path) path (offset number path) refl apart f s m) (omega arith) fixed (offset_small number path) in
    let two = imperative_passes false 80 all (records + 1) (fixed_by path) path 0 (omega arith) (λ line apart f s m. imperative_says false (codes "P") line (fixed_by path) path 0 refl apart f s m) (omega arith) fixed (omega arith) in
    let three = same_passes all (records + 1 + 1) (disturbed_by path) path (2000 + stretch number path) 10 (omega arith) disturbed (omega (arith, stretch_small number path)) in
    let four = other_passes all (records + 1 + 1 + 1) (disturbed_by path) path (1970 + stretch number path) 10 (omega arith) disturbed (omega (arith, stretch_small number path)) in
    let sum : records + 1 + 1 + 1 + 1 ≡ records + 4 = omega arith in
    let kind : ℕ → Contents → Type 0 = HasLinks all all in
    let last = subst (λ (k : ℕ). Passes (kind (records + 1 + 1 + 1)) (distance_line (codes "CD") (disturbed_by path) path (falling (1970 + stretch number path) 10) ∷ []) (kind k)) sum four in
    passes_both (kind records) (kind (records + 1)) (kind (records + 4)) _ _ one
    (passes_both (kind (records + 1)) (kind (records + 1 + 1)) (kind (records + 4)) _ _ two
    (passes_both (kind (records + 1 + 1)) (kind (records + 1 + 1 + 1)) (kind (records + 4)) _ _ three last))

further_records : (number all place n records after : ℕ) → 3 ≤ place → place + n ≤ all + 1 → all ≤ 2000 → records + 4 * n ≡ after → after ≤ 8000
    → Passes (HasLinks all all records) (flat_map (record_lines number) (range_with_len place n)) (HasLinks all all after)
further_records number all place zero records after low high few e room =
    let same : records ≡ after = omega arith in
    subst (λ (k : ℕ). Passes (HasLinks all all records) [] (HasLinks all all k)) same (passes_none (HasLinks all all records))
further_records number all place (suc n) records after low high few e room =
    passes_both (HasLinks all all records) (HasLinks all all (records + 4)) (HasLinks all all after) (record_lines number place) (flat_map (record_lines number) (range_with_len (place + 1) n))
    (records_pass number all records place low (omega arith) few (omega arith))
    (further_records number all (place + 1) n (records + 4) after (omega arith) (omega arith) few (omega arith) room)

-- ---- the whole

module _ (number all : ℕ) (some : 2 ≤ all) (few : all ≤ 2000) where
  first_pair : ArePair all 1 2
  first_pair = record { hub = (omega arith, omega arith); later = λ same. omega (arith, same); some = omega arith; within = omega arith; first_within = omega arith; few = few }

  network_passes : Passes (HasDomains 0 0) (network_lines number all) (HasLinks all all (2 + 4 * (all - 2)))
  unfolding network_lines
  network_passes =
      let links : ℕ → ℕ → Contents → Type 0 = HasLinks all in
      let end : Contents → Type 0 = HasLinks all all (2 + 4 * (all - 2)) in
      let count : 2 + (all - 2) ≡ all = omega arith in
      passes_both (HasDomains 0 0) (HasDomains 10 1) end _ _ (values_pass 0 1 1000 0 10 (omega arith) (omega arith) (omega arith) (omega arith) (omega arith))
      (passes_both (HasDomains 10 1) (HasDomains 20 2) end _ _ (values_pass 1 2 3000 10 20 (omega arith) (omega arith) (omega arith) (omega arith) (omega arith))
      (passes_from (HasDomains 20 2) (links 0 0) end _ (begun all)
      (passes_both (links 0 0) (links 2 0) end _ _ (paths_pass all)
      (passes_both (links 2 0) (links all 0) end _ _ (further_paths all 3 (all - 2) 2 all (omega arith) count few)
      (passes_both (links all 0) (links all 1) end (distance_line (codes "CE") 1 2 (falling 50 5) ∷ []) _ (same_passes all 0 1 2 50 5 (omega arith) first_pair (omega arith))
      (passes_both (links all 1) (links all 2) end (distance_line (codes "CD") 1 2 (falling 0 0) ∷ []) _ (other_passes all 1 1 2 0 0 (omega arith) first_pair (omega arith))
      (further_records number all 3 (all - 2) 2 (2 + 4 * (all - 2)) (omega arith) (omega arith) few refl (omega arith))))))))

start : HasDomains 0 0 no_contents
start = record { values = refl; filled = λ domain some within. absurd (omega arith); nothing = refl }

pub made_instances : MadeNetworksAreInstances
unfolding network_text
made_instances number all some few =
    let ls = network_lines number all in
    let passes = network_passes number all some few in
    let read = passes.reads no_contents 1 start in
    let contents : Contents = read.0 in
    let instance : Instance = instance_of (frequencies contents.domains) contents.links in
    let is : instance_of_text (flat_map line_text ls) ≡ Ok instance = ap instance_of_lines (lines_again ls passes.whole)
    ∙ ap (λ (r : Result Contents (LineFault Cause)). r >>= instance_of_contents) read.1
    ∙ network_free all (2 + 4 * (all - 2)) contents few read.2 in
    record {
      instance = instance;
      read = is;
      valid = valid_text (flat_map line_text ls) instance is;
      paths = length-map (paths_of contents.links) (path_of (frequencies contents.domains)) ∙ read.2.paths;
      records = length-map (constraints_of contents.links) (record_of (paths_of contents.links)) ∙ read.2.constraints;
    }

-- ---- how long it is

domain_count : (domain first : ℕ) → length (domain_lines domain first) ≡ 10
unfolding domain_lines
domain_count domain first = refl

record_count : (number place n : ℕ) → length (flat_map (record_lines number) (range_with_len place n)) ≡ 4 * n
unfolding record_lines
record_count number place zero = refl
record_count number place (suc n) = omega (arith, record_count number (place + 1) n)

path_count : (n : ℕ) → length (map (λ path. path_line path 2) (range_with_len 3 n)) ≡ n
path_count n = length-map (range_with_len 3 n) (λ path. path_line path 2) ∙ length-range_with_len 3 n

line_count : (number all : ℕ) → length (network_lines number all) ≤ 24 + 5 * (all - 2)
unfolding network_lines first_lines
line_count number all =
    let further = map (λ path. path_line path 2) (range_with_len 3 (all - 2)) in
    let records = flat_map (record_lines number) (range_with_len 3 (all - 2)) in
    let pair = distance_line (codes "CE") 1 2 (falling 50 5) ∷ distance_line (codes "CD") 1 2 (falling 0 0) ∷ records in
    let one = length-append (domain_lines 1 1000) (domain_lines 2 3000 ++ (first_lines ++ (further ++ pair))) in
    let two = length-append (domain_lines 2 3000) (first_lines ++ (further ++ pair)) in
    let three = length-append further pair in
    omega (arith, one, two, three, domain_count 1 1000, domain_count 2 3000, path_count (all - 2), record_count number 3 (all - 2))

pub made_short : MadeNetworksAreShort
unfolding network_text
made_short number all some few =
    let short = text_short (network_lines number all) (network_passes number all some few).whole in
    omega (arith, short, line_count number all)
