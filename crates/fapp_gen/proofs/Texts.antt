-- Lines as they are written, piece by piece.
use Rattle.std.proofs.Common.{◌≡◌, ℕ, ◌+◌, ◌-◌, ◌*◌, List, [], ◌∷◌, ◌++◌, map, decimal, codes, refl, sym, subst, ap, ◌∙◌, append_assoc, arith}
use Rattle.std.specs.List.{flat_map, join_with_byte, range_with_len}
use Rattle.std.proofs.lemmas.List.{append-nil}
use Rattle.std.proofs.lemmas.List.Concat.{flat_map-append}
use Rattle.std.proofs.lemmas.List.FromFn.{map-range_with_len_more}
use Rattle.fapp_gen.specs.Lines.{falling, line_text, numbered, spaced}
use Rattle.fapp_gen.specs.Generated.{distance_line, domain_lines, first_lines, imperative_line, network_lines, network_text, path_line, record_lines, fixed_by, disturbed_by, offset, stretch}

abbrev behind_spaces : List (List ℕ) → List ℕ
behind_spaces fields = flat_map (λ (field : List ℕ). 32 ∷ field) fields

joined : (word : List ℕ) (fields : List (List ℕ)) → join_with_byte 32 (word ∷ fields) ≡ word ++ behind_spaces fields
joined word [] = sym (append-nil word)
joined word (field ∷ fields) = ap (λ (text : List ℕ). word ++ (32 ∷ text)) (joined field fields)

spaced_fields : (numbers : List ℕ) → behind_spaces (map decimal numbers) ≡ spaced numbers
spaced_fields [] = refl
spaced_fields (n ∷ numbers) = ap (λ (text : List ℕ). (32 ∷ decimal n) ++ text) (spaced_fields numbers)

-- a line of numbers behind a word
pub numbers_line : (word : List ℕ) (numbers : List ℕ) → join_with_byte 32 (numbered word numbers) ≡ word ++ spaced numbers
numbers_line word numbers = joined word (map decimal numbers) ∙ ap (λ (text : List ℕ). word ++ text) (spaced_fields numbers)

pub line_pushed : (word numbers old s1 s2 s3 : List ℕ) → s1 ≡ old ++ word → s2 ≡ s1 ++ spaced numbers → s3 ≡ s2 ++ 10 ∷ [] → s3 ≡ old ++ line_text (numbered word numbers)
line_pushed word numbers old s1 s2 s3 e1 e2 e3 = rw (e3, e2, e1, numbers_line word numbers) (simp append_assoc)

-- one more number
pub number_more : (f : ℕ → ℕ) (n : ℕ) (old s1 s2 : List ℕ) → s1 ≡ old ++ spaced (map f (range_with_len 0 n)) → s2 ≡ s1 ++ spaced (f n ∷ []) → s2 ≡ old ++ spaced (map f (range_with_len 0 (n + 1)))
number_more f n old s1 s2 e1 e2 =
    let at : 0 + n ≡ n = omega arith in
    rw (e2, e1, map-range_with_len_more f 0 n n at, flat_map-append (λ (k : ℕ). 32 ∷ decimal k) (map f (range_with_len 0 n)) (f n ∷ [])) (append_assoc old (spaced (map f (range_with_len 0 n))) (spaced (f n ∷ [])))

-- one more line
pub line_more : (f : ℕ → List (List ℕ)) (a n j m : ℕ) (old s1 s2 : List ℕ) → a + n ≡ j → m ≡ n + 1 → s1 ≡ old ++ flat_map line_text (map f (range_with_len a n)) → s2 ≡ s1 ++ line_text (f j) → s2 ≡ old ++ flat_map line_text (map f (range_with_len a m))
line_more f a n j m old s1 s2 e em e1 e2 = rw (em, e2, e1, map-range_with_len_more f a n j e, flat_map-append line_text (map f (range_with_len a n)) (f j ∷ []), append-nil (line_text (f j))) (append_assoc old (flat_map line_text (map f (range_with_len a n))) (line_text (f j)))

range_more : (a n : ℕ) → range_with_len a (n + 1) ≡ range_with_len a n ++ (a + n) ∷ []
range_more a n = sym (map-same (range_with_len a (n + 1))) ∙ (map-range_with_len_more (λ (k : ℕ). k) a n (a + n) refl ∙ ap (λ (xs : List ℕ). xs ++ (a + n) ∷ []) (map-same (range_with_len a n)))
  where
    map-same : (xs : List ℕ) → map (λ (k : ℕ). k) xs ≡ xs
    map-same [] = refl
    map-same (x ∷ xs) = ap (λ (ys : List ℕ). x ∷ ys) (map-same xs)

-- one more group of lines
pub lines_more : (f : ℕ → List (List (List ℕ))) (a n j m : ℕ) (old s1 s2 : List ℕ) → a + n ≡ j → m ≡ n + 1 → s1 ≡ old ++ flat_map line_text (flat_map f (range_with_len a n)) → s2 ≡ s1 ++ flat_map line_text (f j) → s2 ≡ old ++ flat_map line_text (flat_map f (range_with_len a m))
lines_more f a n j m old s1 s2 e em e1 e2 = rw (em, e2, e1, group a n j e, flat_map-append line_text (flat_map f (range_with_len a n)) (f j)) (append_assoc old (flat_map line_text (flat_map f (range_with_len a n))) (flat_map line_text (f j)))
  where
    group : (a n j : ℕ) → a + n ≡ j → flat_map f (range_with_len a (n + 1)) ≡ flat_map f (range_with_len a n) ++ f j
    group a n j e = rw (range_more a n, flat_map-append f (range_with_len a n) ((a + n) ∷ []), append-nil (f (a + n))) (ap (λ (k : ℕ). flat_map f (range_with_len a n) ++ f k) e)

pub falling_done : (first step n : ℕ) (old s : List ℕ) → n ≡ 11 → s ≡ old ++ spaced (map (λ level. first - step * level) (range_with_len 0 n)) → s ≡ old ++ spaced (falling first step)
unfolding falling
falling_done first step n old s e h = subst (λ (k : ℕ). s ≡ old ++ spaced (map (λ level. first - step * level) (range_with_len 0 k))) e h

pub domain_done : (domain first n : ℕ) (old s : List ℕ) → n ≡ 10 → s ≡ old ++ flat_map line_text (map (λ place. numbered (codes "DM") (domain ∷ (first + 10 * place) ∷ [])) (range_with_len 0 n)) → s ≡ old ++ flat_map line_text (domain_lines domain first)
unfolding domain_lines
domain_done domain first n old s e h = subst (λ (k : ℕ). s ≡ old ++ flat_map line_text (map (λ place. numbered (codes "DM") (domain ∷ (first + 10 * place) ∷ [])) (range_with_len 0 k))) e h

-- numbers behind a word, and further fields
worded : (word numbers : List ℕ) (fields : List (List ℕ)) → join_with_byte 32 (word ∷ (map decimal numbers ++ fields)) ≡ word ++ (spaced numbers ++ behind_spaces fields)
worded word numbers fields = joined word (map decimal numbers ++ fields)
    ∙ ap (λ (text : List ℕ). word ++ text) (flat_map-append (λ (field : List ℕ). 32 ∷ field) (map decimal numbers) fields ∙ ap (λ (text : List ℕ). text ++ behind_spaces fields) (spaced_fields numbers))

-- the line of a record of distances
pub distances_pushed : (word numbers old s1 s2 s3 s4 : List ℕ) (i j : ℕ) → s1 ≡ old ++ word → s2 ≡ s1 ++ spaced (i ∷ j ∷ []) → s3 ≡ s2 ++ spaced numbers → s4 ≡ s3 ++ 10 ∷ [] → s4 ≡ old ++ line_text (distance_line word i j numbers)
unfolding distance_line
distances_pushed word numbers old s1 s2 s3 s4 i j e1 e2 e3 e4 =
    rw (e4, e3, e2, e1, numbers_line word (i ∷ j ∷ numbers), flat_map-append (λ (k : ℕ). 32 ∷ decimal k) (i ∷ j ∷ []) numbers) (regroup old word (spaced (i ∷ j ∷ [])) (spaced numbers) (10 ∷ []))
  where
    regroup : (old word a b e : List ℕ) → (((old ++ word) ++ a) ++ b) ++ e ≡ old ++ ((word ++ (a ++ b)) ++ e)
    regroup old word a b e = simp append_assoc

pub imperative_pushed : (kind old s1 s2 s3 s4 s5 s6 s7 : List ℕ) (i j n : ℕ) → s1 ≡ old ++ codes "CI" → s2 ≡ s1 ++ spaced (i ∷ j ∷ []) → s3 ≡ s2 ++ 32 ∷ [] → s4 ≡ s3 ++ kind → s5 ≡ s4 ++ 32 ∷ codes "E" → s6 ≡ s5 ++ spaced (n ∷ []) → s7 ≡ s6 ++ 10 ∷ []
    → s7 ≡ old ++ line_text (imperative_line kind i j n)
unfolding imperative_line
imperative_pushed kind old s1 s2 s3 s4 s5 s6 s7 i j n e1 e2 e3 e4 e5 e6 e7 =
    rw (e7, e6, e5, e4, e3, e2, e1) (regroup old (codes "CI") (spaced (i ∷ j ∷ [])) kind (32 ∷ codes "E") (spaced (n ∷ [])) (10 ∷ [])
    ∙ ap (λ (text : List ℕ). old ++ (text ++ 10 ∷ [])) (sym (worded (codes "CI") (i ∷ j ∷ []) (kind ∷ codes "E" ∷ decimal n ∷ []))))
  where
    regroup : (old word a kind b c e : List ℕ) → ((((((old ++ word) ++ a) ++ 32 ∷ []) ++ kind) ++ b) ++ c) ++ e ≡ old ++ ((word ++ (a ++ (32 ∷ (kind ++ (b ++ c))))) ++ e)
    regroup old word a kind b c e = simp append_assoc

pub paths_pushed : (old s1 s2 s3 : List ℕ) (further : List (List (List ℕ))) → s1 ≡ old ++ line_text (path_line 1 1) → s2 ≡ s1 ++ line_text (path_line 2 1) → s3 ≡ s2 ++ flat_map line_text further → s3 ≡ old ++ flat_map line_text (first_lines ++ further)
unfolding first_lines
paths_pushed old s1 s2 s3 further e1 e2 e3 = rw (e3, e2, e1) (simp append_assoc)

pub records_pushed : (number path hub other offset_is stretch_is : ℕ) (old s1 s2 s3 s4 : List ℕ) → hub ≡ fixed_by path → other ≡ disturbed_by path → offset_is ≡ offset number path → stretch_is ≡ stretch number path
    → s1 ≡ old ++ line_text (imperative_line (codes "F") hub path offset_is)
    → s2 ≡ s1 ++ line_text (imperative_line (codes "P") hub path 0)
    → s3 ≡ s2 ++ line_text (distance_line (codes "CE") other path (falling (2000 + stretch_is) 10))
    → s4 ≡ s3 ++ line_text (distance_line (codes "CD") other path (falling (1970 + stretch_is) 10))
    → s4 ≡ old ++ flat_map line_text (record_lines number path)
unfolding record_lines
records_pushed number path hub other offset_is stretch_is old s1 s2 s3 s4 eh eo en er e1 e2 e3 e4 =
    rw (e4, e3, e2, e1, eh, eo, en, er) (regroup old _ _ _ _)
  where
    regroup : (old a b c d : List ℕ) → (((old ++ a) ++ b) ++ c) ++ d ≡ old ++ (a ++ (b ++ (c ++ (d ++ []))))
    regroup old a b c d = rw (append-nil d) (simp append_assoc)

pub network_pushed : (number paths : ℕ) (s0 s1 s2 s3 s4 s5 s6 : List ℕ) → s0 ≡ []
    → s1 ≡ s0 ++ flat_map line_text (domain_lines 1 1000) → s2 ≡ s1 ++ flat_map line_text (domain_lines 2 3000)
    → s3 ≡ s2 ++ flat_map line_text (first_lines ++ map (λ path. path_line path 2) (range_with_len 3 (paths - 2)))
    → s4 ≡ s3 ++ line_text (distance_line (codes "CE") 1 2 (falling 50 5)) → s5 ≡ s4 ++ line_text (distance_line (codes "CD") 1 2 (falling 0 0))
    → s6 ≡ s5 ++ flat_map line_text (flat_map (record_lines number) (range_with_len 3 (paths - 2)))
    → s6 ≡ network_text number paths
unfolding network_text network_lines
network_pushed number paths s0 s1 s2 s3 s4 s5 s6 e0 e1 e2 e3 e4 e5 e6 =
    let further = map (λ path. path_line path 2) (range_with_len 3 (paths - 2)) in
    let records = flat_map (record_lines number) (range_with_len 3 (paths - 2)) in
    let pair = distance_line (codes "CE") 1 2 (falling 50 5) ∷ distance_line (codes "CD") 1 2 (falling 0 0) ∷ [] in
    rw (
      e6,
      e5,
      e4,
      e3,
      e2,
      e1,
      e0,
      flat_map-append line_text (domain_lines 1 1000) (domain_lines 2 3000 ++ (first_lines ++ (further ++ (pair ++ records)))),
      flat_map-append line_text (domain_lines 2 3000) (first_lines ++ (further ++ (pair ++ records))),
      flat_map-append line_text first_lines (further ++ (pair ++ records)),
      flat_map-append line_text further (pair ++ records),
      flat_map-append line_text first_lines further,
    ) (simp append_assoc)
