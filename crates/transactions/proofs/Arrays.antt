-- One read or one write more in a transaction's arrays.
use Rattle.std.proofs.Common.{◌≡◌, ℕ, zero, suc, ◌+◌, ◌<◌, ◌≤◌, ◌≢◌, List, [], ◌∷◌, ◌++◌, map, length, take, set, refl, ap, ◌∙◌, arith, below_more}
use Rattle.std.proofs.lemmas.List.{take_more_set, map_push, map-set, take-append-le, get_or-set_same, get_or-set_other, length-map, length-take-le}
use Rattle.model.specs.declared.Entry.{Entry}
use Rattle.transactions.specs.declared.noted.NotedRead.{NotedRead}
use Rattle.transactions.specs.Noted.{read_of, Within}

abbrev own : NotedRead → ℕ
own r = r.own

pub within_more : (w n : ℕ) (rs : List NotedRead) (r : NotedRead) → n < length rs → r.own ≤ w → Within w n rs → Within w (n + 1) (set rs n r)
within_more w n rs r l h inv =
    rw (map-set own rs n r)
    (below_more _ _
    (λ k lt. let ne : k ≢ n = omega arith in rw get_or-set_other (inv k lt))
    (let lt : n < length (map own rs) = rw length-map l in rw get_or-set_same h))

pub read_more : (ws : List Entry) (rs : List NotedRead) (n : ℕ) (r : NotedRead) → n < length rs → map (read_of ws) (take (n + 1) (set rs n r)) ≡ map (read_of ws) (take n rs) ++ (read_of ws r ∷ [])
read_more ws rs n r l = ap (map (read_of ws)) (take_more_set rs n r l) ∙ map_push (read_of ws) (take n rs) r

-- a write more leaves the reads as they were
pub reads_kept : (e : Entry) (ws : List Entry) (n : ℕ) (rs : List NotedRead) → Within (length ws) n rs → map (read_of (ws ++ (e ∷ []))) (take n rs) ≡ map (read_of ws) (take n rs)
reads_kept e ws zero rs h = refl
reads_kept e ws (suc n) [] h = refl
reads_kept e ws (suc n) (r ∷ rs) h =
    let a : take r.own (ws ++ (e ∷ [])) ≡ take r.own ws = take-append-le r.own ws (e ∷ []) (h 0 (omega arith)) in
    let b : map (read_of (ws ++ (e ∷ []))) (take n rs) ≡ map (read_of ws) (take n rs) = reads_kept e ws n rs (λ k l. h (suc k) (omega arith)) in
    cc

pub length-reads : (ws : List Entry) (rs : List NotedRead) (n : ℕ) → n ≤ length rs → length (map (read_of ws) (take n rs)) ≡ n
length-reads ws rs n h = rw length-map (length-take-le n rs h)
