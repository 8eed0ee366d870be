-- Each edit of the chunks: what is counted beside them, and the joined list.
use Rattle.std.proofs.Common.{ℕ, ◌≡◌, ◌+◌, ◌-◌, ◌<◌, ◌≤◌, ◌^◌, List, [], ◌∷◌, ◌++◌, length, get_or, set, take, drop, map, All, Result, Ok, Err, OnErr, refl, sym, ap, ◌∙◌, subst, arith, suc, length-append, length-set}
use Rattle.std.specs.List.{insert, remove}
use Rattle.std.proofs.lemmas.List.{append_assoc, length_push, length-map, map-set, get_or-map, take-map, drop-map, map-append, get_or_default, get_or-drop, length-drop, length-take, length-take-le, set-get_or}
use Rattle.std.proofs.lemmas.List.Edits.{length-insert, length-remove, get_or-remove_below}
use Rattle.std.proofs.lemmas.List.Elements.{All-push, All-same}
use Rattle.long_list.specs.Chunks.{joined, starts_from, IsCounted, IsLocated}
use Rattle.long_list.proofs.ChunkLaws.{before, joined_at, insert_in, remove_in, set_in, remove_alone, joined_split, joined_merge, filled_at, filled_set, filled_insert, filled_remove, chunk_ends}
use Rattle.long_list.proofs.StartLaws.{length_starts, start_at, starts_grown, starts_shrunk, starts_same, starts_gone, starts_merge, starts_split, start_up_to, start_above}

module _ {V X : Type 0} (f : V → List X) where
  pub chunk_read : (vs : List V) (c : ℕ) (v : V) → c < length (map f vs) → v ≡ get_or vs c v → f v ≡ get_or (map f vs) c []
  chunk_read vs c v h e = ap f e ∙ sym (get_or-map f vs c v [] (omega (arith, length-map vs f)))

  pub map-insert : (vs : List V) (c : ℕ) (v : V) → map f (insert vs c v) ≡ insert (map f vs) c (f v)
  map-insert vs c v =
      map-append f (take c vs) (v ∷ drop c vs)
      ∙ ap (λ l. l ++ f v ∷ map f (drop c vs)) (sym (take-map f c vs))
      ∙ ap (λ l. take c (map f vs) ++ f v ∷ l) (sym (drop-map f c vs))

  pub map-remove : (vs : List V) (c : ℕ) → map f (remove vs c) ≡ remove (map f vs) c
  map-remove vs c =
      map-append f (take c vs) (drop (suc c) vs)
      ∙ ap (λ l. l ++ map f (drop (suc c) vs)) (sym (take-map f c vs))
      ∙ ap (λ l. take c (map f vs) ++ l) (sym (drop-map f (suc c) vs))

-- chunks after an edit: they are counted, and joined they are the list
pub record Edited {X : Type 0} (chunks : List (List X)) (starts : List ℕ) (len : ℕ) (is : List X) : Type 0 where
  pub counted : IsCounted chunks starts len
  pub view : joined chunks ≡ is

next : (c : ℕ) → c + 1 ≡ suc c
next c = omega arith

module _ {X : Type 0} (cs : List (List X)) (s : List ℕ) (len : ℕ) (counted : IsCounted cs s len) where
  pub counts : length s ≡ length cs
  counts = ap length counted.begins ∙ length_starts 0 cs

  pub within_starts : (c : ℕ) → c < length cs → c + 1 ≤ length s
  within_starts c h = omega (arith, counts)

  -- no start is above the length
  pub all_have_room : len < 2 ^ 64 - 1 → All (λ x. x + 1 < 2 ^ 64) s
  all_have_room h = λ k d inside.
      let is : get_or s k d ≡ get_or (starts_from 0 cs) k d = ap (λ l. get_or l k d) counted.begins in
      let up = start_up_to cs k d (omega (arith, counts)) in
      let e = counted.count in
      omega arith

  pub all_above : (c : ℕ) → c < length cs → All (λ x. 0 < x) (drop (c + 1) s)
  all_above c h = λ k d inside.
      let place : c + 1 + k ≡ suc (c + k) = omega arith in
      let is : get_or (drop (c + 1) s) k d ≡ get_or (starts_from 0 cs) (suc (c + k)) d =
      get_or-drop (c + 1) s k d ∙ ap (λ n. get_or s n d) place ∙ ap (λ l. get_or l (suc (c + k)) d) counted.begins in
      let up = start_above cs (c + k) d counted.filled (omega (arith, counts, length-drop (c + 1) s)) in
      omega arith

  -- a start and its chunk's length are together at most the length
  pub start_room : (c : ℕ) → c < length cs → get_or s c 0 + length (get_or cs c []) ≤ len
  start_room c h =
      let is : get_or s c 0 ≡ 0 + before cs c = ap (λ l. get_or l c 0) counted.begins ∙ start_at 0 cs c h in
      let up = chunk_ends cs c h in
      let e = counted.count in
      omega arith

  pub start_read : (c : ℕ) → c < length cs → (ss : List ℕ) → ss ≡ s → (x : ℕ) → x ≡ get_or ss c x → x ≡ get_or s c 0
  start_read c h ss same x r = r ∙ ap (λ l. get_or l c x) same ∙ get_or_default s c x 0 (omega (arith, counts))

  pub kept : (c : ℕ) (new : List X) → new ≡ get_or cs c [] → set cs c new ≡ cs
  kept c new e = ap (set cs c) e ∙ set-get_or cs c []

  -- the starts as the code changed them
  changed : (f : ℕ → ℕ) (c : ℕ) (s' : List ℕ) → s' ≡ take (c + 1) s ++ map f (drop (c + 1) s) → s' ≡ take (suc c) (starts_from 0 cs) ++ map f (drop (suc c) (starts_from 0 cs))
  changed f c s' e =
      e ∙ ap (λ n. take n s ++ map f (drop n s)) (next c)
      ∙ ap (λ l. take (suc c) l ++ map f (drop (suc c) l)) counted.begins

  module _ (at c i : ℕ) (spot : IsLocated cs at c i) where
    pub put_one : at ≤ length (joined cs) → (y : X) (new : List X) (s' : List ℕ) → new ≡ insert (get_or cs c []) i y → s' ≡ take (c + 1) s ++ map (λ x. x + 1) (drop (c + 1) s) → Edited (set cs c new) s' (len + 1) (insert (joined cs) at y)
    put_one le y new s' e es =
        let grown : length new ≡ length (get_or cs c []) + 1 = ap length e ∙ length-insert (get_or cs c []) i y (spot.up_to le) in
        let is : joined (set cs c new) ≡ insert (joined cs) at y =
        ap (λ l. joined (set cs c l)) e ∙ sym (insert_in cs c i y spot.within (spot.up_to le)) ∙ ap (λ n. insert (joined cs) n y) spot.is in
        record {
          counted = record {
            filled = filled_set cs c new counted.filled (omega arith);
            begins = changed (λ x. x + 1) c s' es ∙ sym (starts_grown 0 cs c new spot.within grown);
            count = ap (λ n. n + 1) counted.count ∙ sym (length-insert (joined cs) at y le) ∙ sym (ap length is);
          };
          view = is;
        }

    pub set_one : at < length (joined cs) → (y : X) (new : List X) → new ≡ set (get_or cs c []) i y → Edited (set cs c new) s len (set (joined cs) at y)
    set_one lt y new e =
        let same : length new ≡ length (get_or cs c []) = ap length e ∙ length-set (get_or cs c []) i y in
        let some = filled_at cs c counted.filled spot.within in
        let is : joined (set cs c new) ≡ set (joined cs) at y =
        ap (λ l. joined (set cs c l)) e ∙ sym (set_in cs c i y spot.within (spot.inside lt)) ∙ ap (λ n. set (joined cs) n y) spot.is in
        record {
          counted = record {
            filled = filled_set cs c new counted.filled (omega arith);
            begins = counted.begins ∙ sym (starts_same 0 cs c new spot.within same);
            count = counted.count ∙ sym (length-set (joined cs) at y) ∙ sym (ap length is);
          };
          view = is;
        }

    pub take_one : at < length (joined cs) → 1 < length (get_or cs c []) → (new : List X) (s' : List ℕ) → new ≡ remove (get_or cs c []) i → s' ≡ take (c + 1) s ++ map (λ x. x - 1) (drop (c + 1) s) → Edited (set cs c new) s' (len - 1) (remove (joined cs) at)
    take_one lt more new s' e es =
        let shrunk : length new + 1 ≡ length (get_or cs c []) = ap (λ l. length l + 1) e ∙ length-remove (get_or cs c []) i (spot.inside lt) in
        let is : joined (set cs c new) ≡ remove (joined cs) at =
        ap (λ l. joined (set cs c l)) e ∙ sym (remove_in cs c i spot.within (spot.inside lt)) ∙ ap (λ n. remove (joined cs) n) spot.is in
        let count = counted.count in
        let less = length-remove (joined cs) at lt in
        let same = ap length is in
        record {
          counted = record {
            filled = filled_set cs c new counted.filled (omega arith);
            begins = changed (λ x. x - 1) c s' es ∙ sym (starts_shrunk 0 cs c new spot.within shrunk);
            count = omega arith;
          };
          view = is;
        }

    pub take_last : at < length (joined cs) → length (get_or cs c []) ≡ 1 → (s₁ s' : List ℕ) → s₁ ≡ take (c + 1) s ++ map (λ x. x - 1) (drop (c + 1) s) → s' ≡ remove s₁ c → Edited (remove cs c) s' (len - 1) (remove (joined cs) at)
    take_last lt one s₁ s' e es =
        let is : joined (remove cs c) ≡ remove (joined cs) at =
        sym (remove_alone cs c i spot.within one (spot.inside lt)) ∙ ap (λ n. remove (joined cs) n) spot.is in
        let count = counted.count in
        let less = length-remove (joined cs) at lt in
        let same = ap length is in
        record {
          counted = record {
            filled = filled_remove cs c counted.filled;
            begins = es ∙ ap (λ l. remove l c) (changed (λ x. x - 1) c s₁ e) ∙ sym (starts_gone 0 cs c spot.within one);
            count = omega arith;
          };
          view = is;
        }

  pub join_two : (c : ℕ) → c + 1 < length cs → (new : List X) (s' : List ℕ) → new ≡ get_or cs c [] ++ get_or cs (c + 1) [] → s' ≡ remove s (c + 1) → Edited (set (remove cs (c + 1)) c new) s' len (joined cs)
  join_two c h new s' e es =
      let step = next c in
      let inside : suc c < length cs = omega arith in
      let some = filled_at cs c counted.filled (omega arith) in
      let e' : new ≡ get_or cs c [] ++ get_or cs (suc c) [] = e ∙ ap (λ n. get_or cs c [] ++ get_or cs n []) step in
      let chunks : set (remove cs (c + 1)) c new ≡ set (remove cs (suc c)) c (get_or cs c [] ++ get_or cs (suc c) []) =
      ap (λ n. set (remove cs n) c new) step ∙ ap (set (remove cs (suc c)) c) e' in
      let is : joined (set (remove cs (c + 1)) c new) ≡ joined cs = ap joined chunks ∙ joined_merge cs c inside in
      record {
        counted = record {
          filled = filled_set (remove cs (c + 1)) c new (filled_remove cs (c + 1) counted.filled) (omega (arith, ap length e', length-append (get_or cs c []) (get_or cs (suc c) [])));
          begins = es ∙ ap (remove s) step ∙ ap (λ l. remove l (suc c)) counted.begins ∙ sym (starts_merge 0 cs c inside) ∙ sym (ap (starts_from 0) chunks);
          count = counted.count ∙ sym (ap length is);
        };
        view = is;
      }

  pub split_one : (c k : ℕ) → c < length cs → 0 < k → k < length (get_or cs c []) → (low high : List X) (s' : List ℕ) → low ≡ take k (get_or cs c []) → high ≡ drop k (get_or cs c []) → s' ≡ insert s (c + 1) (get_or s c 0 + k) → Edited (insert (set cs c low) (c + 1) high) s' len (joined cs)
  split_one c k h some less low high s' el eh es =
      let step = next c in
      let chunks : insert (set cs c low) (c + 1) high ≡ insert (set cs c (take k (get_or cs c []))) (suc c) (drop k (get_or cs c [])) =
      ap (λ n. insert (set cs c low) n high) step ∙ ap (λ l. insert (set cs c l) (suc c) high) el ∙ ap (insert (set cs c (take k (get_or cs c []))) (suc c)) eh in
      let is : joined (insert (set cs c low) (c + 1) high) ≡ joined cs = ap joined chunks ∙ joined_split cs c k h in
      record {
        counted = record {
          filled = filled_insert (set cs c low) (c + 1) high (filled_set cs c low counted.filled (omega (arith, ap length el, length-take-le k (get_or cs c []) (omega arith)))) (omega (arith, ap length eh, length-drop k (get_or cs c [])));
          begins = es ∙ ap (λ n. insert s n (get_or s c 0 + k)) step ∙ ap (λ l. insert l (suc c) (get_or l c 0 + k)) counted.begins ∙ sym (starts_split 0 cs c k h (omega arith)) ∙ sym (ap (starts_from 0) chunks);
          count = counted.count ∙ sym (ap length is);
        };
        view = is;
      }

joined_push : {X : Type 0} (cs : List (List X)) (y : X) → joined (cs ++ (y ∷ []) ∷ []) ≡ joined cs ++ y ∷ []
joined_push [] y = refl
joined_push (x ∷ cs) y = ap (λ l. x ++ l) (joined_push cs y) ∙ sym (append_assoc x (joined cs) (y ∷ []))

starts_push : {X : Type 0} (n : ℕ) (cs : List (List X)) (y : List X) → starts_from n (cs ++ y ∷ []) ≡ starts_from n cs ++ (n + length (joined cs)) ∷ []
starts_push n [] y =
    let e : n ≡ n + 0 = omega arith in
    ap (λ m. m ∷ []) e
starts_push n (x ∷ cs) y =
    let e : n + length x + length (joined cs) ≡ n + length (x ++ joined cs) = omega (arith, length-append x (joined cs)) in
    ap (λ l. n ∷ l) (starts_push (n + length x) cs y ∙ ap (λ m. starts_from (n + length x) cs ++ m ∷ []) e)

pub push_one : {X : Type 0} (cs : List (List X)) (s : List ℕ) (len : ℕ) → IsCounted cs s len → (y : X) (cs' : List (List X)) (s' : List ℕ) → cs' ≡ cs ++ (y ∷ []) ∷ [] → s' ≡ s ++ len ∷ [] → Edited cs' s' (len + 1) (joined cs ++ y ∷ [])
push_one cs s len counted y cs' s' e es =
    let is : joined cs' ≡ joined cs ++ y ∷ [] = ap joined e ∙ joined_push cs y in
    let start : len ≡ 0 + length (joined cs) = omega (arith, counted.count) in
    record {
      counted = record {
        filled = All-same (λ chunk. 0 < length chunk) cs' (cs ++ (y ∷ []) ∷ []) e (All-push (λ chunk. 0 < length chunk) cs (y ∷ []) counted.filled (omega arith));
        begins = es ∙ ap (λ l. l ++ len ∷ []) counted.begins ∙ ap (λ n. starts_from 0 cs ++ n ∷ []) start ∙ sym (starts_push 0 cs (y ∷ [])) ∙ sym (ap (starts_from 0) e);
        count = ap (λ n. n + 1) counted.count ∙ sym (length_push (joined cs) y) ∙ sym (ap length is);
      };
      view = is;
    }

-- what an index into a chunk reads is an element of the joined list
pub element_read : {X : Type 0} (cs : List (List X)) (at c i : ℕ) (chunk : List X) (x : X) → IsLocated cs at c i → at < length (joined cs) → chunk ≡ get_or cs c [] → x ≡ get_or chunk i x → x ≡ get_or (joined cs) at x
element_read cs at c i chunk x spot lt e r =
    r ∙ ap (λ l. get_or l i x) e ∙ sym (joined_at cs c i x spot.within (spot.inside lt)) ∙ ap (λ n. get_or (joined cs) n x) spot.is

edited_as : {X : Type 0} (cs cs' : List (List X)) (s : List ℕ) (len : ℕ) (is is' : List X) → cs ≡ cs' → is ≡ is' → Edited cs s len is → Edited cs' s len is'
edited_as cs cs' s len is is' e ei h =
    record { counted = subst (λ l. IsCounted l s len) e h.counted; view = ap joined (sym e) ∙ h.view ∙ ei }

-- the same of what holds the chunks, as a `Vec` does: f gives the elements
module _ {V X : Type 0} (f : V → List X) (vs : List V) (s : List ℕ) (len : ℕ) (self : List X) (counted : IsCounted (map f vs) s len) (view : joined (map f vs) ≡ self) where
  module _ (ds : List V) (same : ds ≡ vs) (at c i : ℕ) (spot : IsLocated (map f ds) at c i) where
    pub here : IsLocated (map f vs) at c i
    here = subst (λ l. IsLocated (map f l) at c i) same spot

    at_most : at ≤ length self → at ≤ length (joined (map f vs))
    at_most h = subst (λ l. at ≤ length l) (sym view) h

    at_below : at < length self → at < length (joined (map f vs))
    at_below h = subst (λ l. at < length l) (sym view) h

    module _ (v : V) (read : v ≡ get_or vs c v) where
      pub chunk : f v ≡ get_or (map f vs) c []
      chunk = chunk_read f vs c v here.within read

      pub element_at : at < length self → (x : X) → x ≡ get_or (f v) i x → x ≡ get_or self at x
      element_at lt x r = element_read (map f vs) at c i (f v) x here (at_below lt) chunk r ∙ ap (λ l. get_or l at x) view

      pub element_put : at ≤ length self → (y : X) (w : V) (s' : List ℕ) → f w ≡ insert (f v) i y → s' ≡ take (c + 1) s ++ map (λ x. x + 1) (drop (c + 1) s) → Edited (map f (set vs c w)) s' (len + 1) (insert self at y)
      element_put le y w s' e es =
          edited_as _ _ s' (len + 1) _ _ (sym (map-set f vs c w)) (ap (λ l. insert l at y) view)
          (put_one (map f vs) s len counted at c i here (at_most le) y (f w) s' (e ∙ ap (λ l. insert l i y) chunk) es)

      pub element_set : at < length self → (y : X) (w : V) → f w ≡ set (f v) i y → Edited (map f (set vs c w)) s len (set self at y)
      element_set lt y w e =
          edited_as _ _ s len _ _ (sym (map-set f vs c w)) (ap (λ l. set l at y) view)
          (set_one (map f vs) s len counted at c i here (at_below lt) y (f w) (e ∙ ap (λ l. set l i y) chunk))

      pub element_taken : at < length self → 1 < length (f v) → (w : V) (s' : List ℕ) → f w ≡ remove (f v) i → s' ≡ take (c + 1) s ++ map (λ x. x - 1) (drop (c + 1) s) → Edited (map f (set vs c w)) s' (len - 1) (remove self at)
      element_taken lt more w s' e es =
          let n = ap length chunk in
          edited_as _ _ s' (len - 1) _ _ (sym (map-set f vs c w)) (ap (λ l. remove l at) view)
          (take_one (map f vs) s len counted at c i here (at_below lt) (omega arith) (f w) s' (e ∙ ap (λ l. remove l i) chunk) es)

      pub chunk_taken : at < length self → length (f v) ≡ 1 → (vs' : List V) (s₁ s' : List ℕ) → vs' ≡ remove vs c → s₁ ≡ take (c + 1) s ++ map (λ x. x - 1) (drop (c + 1) s) → s' ≡ remove s₁ c → Edited (map f vs') s' (len - 1) (remove self at)
      chunk_taken lt one vs' s₁ s' ev e es =
          edited_as _ _ s' (len - 1) _ _ (sym (ap (map f) ev ∙ map-remove f vs c)) (ap (λ l. remove l at) view)
          (take_last (map f vs) s len counted at c i here (at_below lt) (sym (ap length chunk) ∙ one) s₁ s' e es)

      -- two reads of a chunk read the same
      pub same_chunk : (u : V) → u ≡ get_or vs c u → f u ≡ f v
      same_chunk u r = chunk_read f vs c u here.within r ∙ sym chunk

      pub only_element : at < length self → length (f v) ≡ 1 → (u : V) → u ≡ get_or vs c u → (x : X) → x ≡ get_or (f u) 0 x → x ≡ get_or self at x
      only_element lt one u r x e =
          let inside : i < length (get_or (map f vs) c []) = here.inside (at_below lt) in
          let n = ap length chunk in
          let first : 0 ≡ i = omega arith in
          element_at lt x (e ∙ ap (λ l. get_or l 0 x) (same_chunk u r) ∙ ap (λ k. get_or (f v) k x) first)

      pub several : (length (f v) ≡ 1 → ⊥) → (u : V) → u ≡ get_or vs c u → 1 < length (f u)
      several more u r =
          let some = filled_at (map f vs) c counted.filled here.within in
          let n = ap length chunk in
          let m = ap length (same_chunk u r) in
          omega arith

  pub chunk_pushed : (y : X) (w : V) (vs' : List V) (s' : List ℕ) → f w ≡ y ∷ [] → vs' ≡ vs ++ w ∷ [] → s' ≡ s ++ len ∷ [] → Edited (map f vs') s' (len + 1) (self ++ y ∷ [])
  chunk_pushed y w vs' s' e ev es =
      edited_as _ _ s' (len + 1) _ _ refl (ap (λ l. l ++ y ∷ []) view)
      (push_one (map f vs) s len counted y (map f vs') s' (ap (map f) ev ∙ map-append f vs (w ∷ []) ∙ ap (λ l. map f vs ++ l ∷ []) e) es)

  pub chunk_split : (c k : ℕ) → c < length (map f vs) → (us : List V) → us ≡ vs → (v : V) → v ≡ get_or us c v → 0 < k → k < length (f v) → (low high : V) (vs' : List V) (s' : List ℕ) → f low ≡ take k (f v) → f high ≡ drop k (f v) → vs' ≡ insert (set us c low) (c + 1) high → s' ≡ insert s (c + 1) (get_or s c 0 + k) → Edited (map f vs') s' len self
  chunk_split c k h us same v r some less low high vs' s' el eh ev es =
      let read : v ≡ get_or vs c v = r ∙ ap (λ l. get_or l c v) same in
      let e = chunk_read f vs c v h read in
      let chunks : map f vs' ≡ insert (set (map f vs) c (f low)) (c + 1) (f high) =
      ap (map f) ev ∙ map-insert f (set us c low) (c + 1) high ∙ ap (λ l. insert l (c + 1) (f high)) (ap (λ l. map f (set l c low)) same ∙ map-set f vs c low) in
      edited_as _ _ s' len _ _ (sym chunks) view
      (split_one (map f vs) s len counted c k h some (subst (λ l. k < length l) e less) (f low) (f high) s' (el ∙ ap (take k) e) (eh ∙ ap (drop k) e) es)

  -- the chunk was put back with more room, and the next one's elements went behind its own
  pub chunks_joined : (c : ℕ) → c + 1 < length (map f vs) → (us : List V) → map f us ≡ map f vs → (next_one low w : V) (vs₁ : List V) (s' : List ℕ) → next_one ≡ get_or us (c + 1) next_one → vs₁ ≡ remove us (c + 1) → low ≡ get_or vs₁ c low → f w ≡ f low ++ f next_one → s' ≡ remove s (c + 1) → Edited (map f (set vs₁ c w)) s' len self
  chunks_joined c h us same next_one low w vs₁ s' en e₁ el ew es =
      let rest : map f vs₁ ≡ remove (map f vs) (c + 1) = ap (map f) e₁ ∙ map-remove f us (c + 1) ∙ ap (λ l. remove l (c + 1)) same in
      let fewer = length-remove (map f vs) (c + 1) h in
      let is_next : f next_one ≡ get_or (map f vs) (c + 1) [] =
      chunk_read f us (c + 1) next_one (omega (arith, ap length same)) en ∙ ap (λ l. get_or l (c + 1) []) same in
      let is_low : f low ≡ get_or (map f vs) c [] =
      chunk_read f vs₁ c low (omega (arith, ap length rest)) el ∙ ap (λ l. get_or l c []) rest ∙ get_or-remove_below (map f vs) (c + 1) [] c (omega arith) h in
      let both : f w ≡ get_or (map f vs) c [] ++ get_or (map f vs) (c + 1) [] =
      ew ∙ ap (λ l. l ++ f next_one) is_low ∙ ap (λ l. get_or (map f vs) c [] ++ l) is_next in
      let chunks : map f (set vs₁ c w) ≡ set (remove (map f vs) (c + 1)) c (f w) = map-set f vs₁ c w ∙ ap (λ l. set l c (f w)) rest in
      edited_as _ _ s' len _ _ (sym chunks) view (join_two (map f vs) s len counted c h (f w) s' both es)

  -- a chunk put back with the elements that it had
  pub chunks_kept : (c : ℕ) (v w : V) → c < length (map f vs) → v ≡ get_or vs c v → f w ≡ f v → map f (set vs c w) ≡ map f vs
  chunks_kept c v w h r e = map-set f vs c w ∙ kept (map f vs) s len counted c (f w) (e ∙ chunk_read f vs c v h r)

  pub as_kept : (c : ℕ) (v w : V) → c < length (map f vs) → v ≡ get_or vs c v → f w ≡ f v → Edited (map f (set vs c w)) s len self
  as_kept c v w h r e =
      edited_as _ _ s len _ _ (sym (chunks_kept c v w h r e)) view (record { counted = counted; view = refl })

pub length_lowered : (f : ℕ → ℕ) (k : ℕ) (s : List ℕ) → length (take k s ++ map f (drop k s)) ≡ length s
length_lowered f k s =
    omega (arith, length-append (take k s) (map f (drop k s)), length-map (drop k s) f, length-take k s, length-drop k s)

pub on_err : {A E P : Type 0} (r : Result A E) → P → OnErr r P
on_err (Ok x) p = tt
on_err (Err e) p = p
