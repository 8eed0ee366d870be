-- The slots say one thing.
use Rattle.std.proofs.Common.{◌≡◌, ◌≢◌, ℕ, ◌+◌, ◌≤◌, ◌^◌, List, [], ◌∷◌, ◌++◌, length, take, drop, refl, sym, ap, subst, ◌∙◌, arith}
use Rattle.std.specs.Int.{w32, from_be_bytes}
use Rattle.std.proofs.lemmas.List.{length-append, take_at, drop_at}
use Rattle.std.proofs.lemmas.Nat.{from_be_bytes-to_be_bytes_4}
use Rattle.journal_entries.specs.declared.entry.Entry.{Entry}
use Rattle.journal_entries.specs.declared.standing.Standing.{Standing}
use Rattle.journal_entries.specs.declared.standing.Ending.{Ending}
use Rattle.journal_entries.specs.declared.standing.Ending.TheVariants.{Whole, Stops}
use Rattle.journal_entries.specs.Spelling.{entry_bytes}
use Rattle.journal_entries.specs.Bodies.{Body, ends, stops, goes, behind}
use Rattle.journal_entries.proofs.BodyLaws.{one_entry, some_bytes}
use Rattle.commit_journal.specs.Layout.{Placed, IsBatch, Outcome, Damaged, Batches, closed, cut, broken, opened}

pub record SameBody (entries others : List Placed) (ending another : Ending) : Type 0 where
  pub entries_same : entries ≡ others
  pub ending_same : ending ≡ another

no_entry : {P : Type 0} (e : Entry) (rest : List ℕ) → [] ≡ entry_bytes e ++ rest → P
no_entry e rest same =
    let some : 1 ≤ length (entry_bytes e) = some_bytes e in
    let l : 0 ≡ length (entry_bytes e) + length rest = ap length same ∙ length-append (entry_bytes e) rest in
    absurd (omega arith)

pub one_body : (version : ℕ) {s : Standing} {place : ℕ} {bytes : List ℕ} {entries others : List Placed} {ending another : Ending} → Body version s place bytes entries ending → Body version s place bytes others another → SameBody entries others ending another
one_body version ends ends = record { entries_same = refl; ending_same = refl }
one_body version ends (stops some none) = absurd (some refl)
one_body version ends (goes e rest is allowed same b) = no_entry e rest same
one_body version (stops some none) ends = absurd (some refl)
one_body version (stops some none) (stops some' none') = record { entries_same = refl; ending_same = refl }
one_body version (stops some none) (goes e rest is allowed same b) = absurd (none e rest is allowed same)
one_body version (goes e rest is allowed same b) ends = no_entry e rest same
one_body version (goes e rest is allowed same b) (stops some none) = absurd (none e rest is allowed same)
one_body version {s} {place} {bytes} {entries} {others} {ending} {another} (goes e rest is allowed same b) (goes {more = more'} f rest' is' allowed' same' b') =
    let p = one_entry version f e rest' rest is' is (sym same' ∙ same) in
    let b'' : Body version (behind s e) (place + length (entry_bytes e)) rest more' another =
    subst (λ (l : List ℕ). Body version (behind s e) (place + length (entry_bytes e)) l more' another) p.1
    (subst (λ (x : Entry). Body version (behind s x) (place + length (entry_bytes x)) rest' more' another) p.0 b') in
    let rest-same = one_body version b b'' in
    record {
      entries_same = ap (λ (l : List Placed). (place, e) ∷ l) rest-same.entries_same ∙ ap (λ (x : Entry). (place, x) ∷ more') (sym p.0);
      ending_same = rest-same.ending_same;
    }

pub one_batch : (rest body more body' more' : List ℕ) → IsBatch rest body more → IsBatch rest body' more' → (body ≡ body') × (more ≡ more')
one_batch rest body more body' more' a b =
    let small : length body ≤ 2 ^ 24 = a.size in
    let small' : length body' ≤ 2 ^ 24 = b.size in
    let both = sym a.is ∙ b.is in
    let size : length body ≡ length body' =
    sym (from_be_bytes-to_be_bytes_4 (length body) (omega arith)) ∙ ap (λ (l : List ℕ). from_be_bytes w32 (take 4 l)) both ∙ from_be_bytes-to_be_bytes_4 (length body') (omega arith) in
    let all : body ++ more ≡ body' ++ more' = ap (λ (l : List ℕ). drop 4 l) both in (
      sym (take_at body more (length body) refl) ∙ ap (λ (l : List ℕ). take (length body) l) all ∙ take_at body' more' (length body) (sym size),
      sym (drop_at body more (length body) refl) ∙ ap (λ (l : List ℕ). drop (length body) l) all ∙ drop_at body' more' (length body) (sym size),
    )

abbrev head_cell : List ℕ → ℕ
head_cell [] = 0
head_cell (x ∷ xs) = x

abbrev tail_cells : List ℕ → List ℕ
tail_cells [] = []
tail_cells (x ∷ xs) = xs

pub not_open : {P : Type 0} (bytes : List ℕ) (gate : ℕ) (junk rest : List ℕ) → bytes ≡ gate ∷ junk → gate ≢ 1 → bytes ≡ 1 ∷ rest → P
not_open bytes gate junk rest a shut b = absurd (shut (ap head_cell (sym a ∙ b)))

pub same_rest : (bytes rest rest' : List ℕ) → bytes ≡ 1 ∷ rest → bytes ≡ 1 ∷ rest' → rest' ≡ rest
same_rest bytes rest rest' a b = ap tail_cells (sym b ∙ a)

pub record SameRead (entries others : List Placed) (outcome another : Outcome) : Type 0 where
  pub entries_same : entries ≡ others
  pub outcome_same : outcome ≡ another

pub no_cut : {P : Type 0} (bytes rest rest' body more : List ℕ) → bytes ≡ 1 ∷ rest → ((body more : List ℕ) → IsBatch rest body more → ⊥) → bytes ≡ 1 ∷ rest' → IsBatch rest' body more → P
no_cut bytes rest rest' body more a none b is = absurd (none body more (subst (λ (l : List ℕ). IsBatch l body more) (same_rest bytes rest rest' a b) is))

abbrev stop_of : Ending → ℕ
stop_of (Whole t) = 0
stop_of (Stops p) = p

abbrev standing_of : Ending → Standing → Standing
standing_of (Whole t) d = t
standing_of (Stops p) d = d

pub one_batches : (version : ℕ) {s : Standing} {place : ℕ} {bytes : List ℕ} {entries others : List Placed} {outcome another : Outcome} → Batches version s place bytes entries outcome → Batches version s place bytes others another → SameRead entries others outcome another
one_batches version (closed gate junk a shut) (closed gate' junk' a' shut') = record { entries_same = refl; outcome_same = refl }
one_batches version {bytes = bytes} (closed gate junk a shut) (cut rest b none) = not_open bytes gate junk rest a shut b
one_batches version {bytes = bytes} (closed gate junk a shut) (broken rest body more at b is c) = not_open bytes gate junk rest a shut b
one_batches version {bytes = bytes} (closed gate junk a shut) (opened rest body more t es fs b is c d) = not_open bytes gate junk rest a shut b
one_batches version {bytes = bytes} (cut rest b none) (closed gate junk a shut) = not_open bytes gate junk rest a shut b
one_batches version (cut rest b none) (cut rest' b' none') = record { entries_same = refl; outcome_same = refl }
one_batches version {bytes = bytes} (cut rest b none) (broken rest' body more at b' is c) = no_cut bytes rest rest' body more b none b' is
one_batches version {bytes = bytes} (cut rest b none) (opened rest' body more t es fs b' is c d) = no_cut bytes rest rest' body more b none b' is
one_batches version {bytes = bytes} (broken rest body more at b is c) (closed gate junk a shut) = not_open bytes gate junk rest a shut b
one_batches version {bytes = bytes} (broken rest body more at b is c) (cut rest' b' none) = no_cut bytes rest' rest body more b' none b is
one_batches version {s} {place} {bytes} {entries} {others} (broken rest body more at b is c) (broken rest' body' more' at' b' is' c') =
    let p = one_batch rest body' more' body more (subst (λ (l : List ℕ). IsBatch l body' more') (same_rest bytes rest rest' b b') is') is in
    let x = one_body version c (subst (λ (l : List ℕ). Body version s (place + 5) l others (Stops at')) p.0 c') in
    record { entries_same = x.entries_same; outcome_same = ap (λ (e : Ending). Damaged (stop_of e)) x.ending_same }
one_batches version {s} {place} {bytes} {entries} (broken rest body more at b is c) (opened rest' body' more' t es fs b' is' c' d) =
    let p = one_batch rest body' more' body more (subst (λ (l : List ℕ). IsBatch l body' more') (same_rest bytes rest rest' b b') is') is in
    let x = one_body version c (subst (λ (l : List ℕ). Body version s (place + 5) l es (Whole t)) p.0 c') in
    let no : ◌≡◌ {A = Ending} (Stops at) (Whole t) = x.ending_same in absurd cc
one_batches version {bytes = bytes} (opened rest body more t es fs b is c d) (closed gate junk a shut) = not_open bytes gate junk rest a shut b
one_batches version {bytes = bytes} (opened rest body more t es fs b is c d) (cut rest' b' none) = no_cut bytes rest' rest body more b' none b is
one_batches version {s} {place} {bytes} {entries} {others} (opened rest body more t es fs b is c d) (broken rest' body' more' at b' is' c') =
    let p = one_batch rest body' more' body more (subst (λ (l : List ℕ). IsBatch l body' more') (same_rest bytes rest rest' b b') is') is in
    let x = one_body version c (subst (λ (l : List ℕ). Body version s (place + 5) l others (Stops at)) p.0 c') in
    let no : ◌≡◌ {A = Ending} (Whole t) (Stops at) = x.ending_same in absurd cc
one_batches version {s} {place} {bytes} {outcome = outcome} {another = another} (opened rest body more t es fs b is c d) (opened rest' body' more' t' es' fs' b' is' c' d') =
    let p = one_batch rest body' more' body more (subst (λ (l : List ℕ). IsBatch l body' more') (same_rest bytes rest rest' b b') is') is in
    let x = one_body version c (subst (λ (l : List ℕ). Body version s (place + 5) l es' (Whole t')) p.0 c') in
    let t-same : t' ≡ t = ap (λ (e : Ending). standing_of e t) (sym x.ending_same) in
    let d1 : Batches version t' (place + 5 + length body) more' fs' another = subst (λ (l : List ℕ). Batches version t' (place + 5 + length l) more' fs' another) p.0 d' in
    let d2 : Batches version t' (place + 5 + length body) more fs' another = subst (λ (l : List ℕ). Batches version t' (place + 5 + length body) l fs' another) p.1 d1 in
    let d3 : Batches version t (place + 5 + length body) more fs' another = subst (λ (y : Standing). Batches version y (place + 5 + length body) more fs' another) t-same d2 in
    let y = one_batches version d d3 in
    record {
      entries_same = ap (λ (l : List Placed). l ++ fs) x.entries_same ∙ ap (λ (l : List Placed). es' ++ l) y.entries_same;
      outcome_same = y.outcome_same;
    }

pub one_standing : (version : ℕ) (s₀ begun : Standing) (place : ℕ) (bytes : List ℕ) (entries others : List Placed) (ending : Ending) (s t : Standing) → begun ≡ s₀ → Body version begun place bytes entries ending → ending ≡ Whole s → Body version s₀ place bytes others (Whole t) → s ≡ t
one_standing version s₀ begun place bytes entries others ending s t same b is c =
    let x = one_body version (subst (λ (y : Standing). Body version y place bytes entries ending) same b) c in
    ap (λ (e : Ending). standing_of e s) (sym is ∙ x.ending_same)

pub never_stops : (version : ℕ) (s₀ begun : Standing) (place : ℕ) (bytes : List ℕ) (entries others : List Placed) (ending : Ending) (p : ℕ) (t : Standing) → begun ≡ s₀ → Body version begun place bytes entries ending → ending ≡ Stops p → Body version s₀ place bytes others (Whole t) → ⊥
never_stops version s₀ begun place bytes entries others ending p t same b is c =
    let x = one_body version (subst (λ (y : Standing). Body version y place bytes entries ending) same b) c in
    let no : ◌≡◌ {A = Ending} (Stops p) (Whole t) = sym is ∙ x.ending_same in absurd cc
