-- The block at one end of a pushing gap: how large its numbers get, and what elimination leaves of its shares.
use Prim.Native.Nat.{ℕ, zero, suc, ◌+◌, ◌≤◌, ◌<◌}
use mathlib.Core.Path.{◌≡◌, refl, sym, ◌∙◌, ap}
use mathlib.Core.Logic.{◌≢◌}
use mathlib.Core.Bool.{Bool, true, false, cond}
use mathlib.Core.List.{List}
use native.Mathlib.Omega.{arith}
use lib.Dec.{eqb}
use lib.ListN.{length}
use lib.IntN.{ℤ, pos, nat_abs}
use lib.Signed.{◌≤ℤ◌}
use borrow.Author.Tests.{eqb-true, ne_eqb}
use Rattle.algebra.proofs.Whole.{parts_nat_abs, parts_le, le_trans, le_of_eq}
use Rattle.ground.specs.Entries.{nat, int}
use Rattle.core_forest.specs.Tree.{Tree}
use Rattle.core_elimination.specs.declared.Sums.{Sums}
use Rattle.core_elimination.specs.Block.{IsSign, SumsInRange, Given, only_at}
use Rattle.core_elimination.specs.Eliminate.{Small, eliminated}
use Rattle.core_elimination.proofs.Ranges.{total_small, weight_small}
use Rattle.core_elimination.proofs.Eliminated.{load, load_most, load_term, eliminated_grows, eliminated_load, eliminated_small}
use Rattle.core_breaking.specs.declared.Side.{Side}
use Rattle.core_breaking.specs.Breaking.{BreakInRange, Breakable}
use Rattle.ground.specs.declared.problem.Problem.{Problem}
use Rattle.core_forest.specs.declared.search.Work.{Work}
use Rattle.core_forest.specs.Problem.{Limits, graph_of}
use Rattle.core_advance.specs.Side.{SideFound}
use Rattle.core_breaking.proofs.BreakingPoints.{first_in_range as least_in_range}
use Rattle.core_elimination.proofs.SearchedBlock.{block_listed, block_ordered, block_range, block_sums, surplus_light}

-- ---- shares

-- the load of a single share is at most that share
only_load : (n : ℕ) (queue : List ℕ) (a : List ℤ) (v : ℕ) (s : ℤ) → ((j k : ℕ) → j < k → k < n → nat queue j ≢ nat queue k)
    → ((k : ℕ) → k < n → int a (nat queue k) ≡ only_at v s (nat queue k)) → load n queue a ≤ nat_abs s
unfolding load
only_load zero queue a v s d e = omega arith
only_load (suc n) queue a v s d e = go (only_load n queue a v s (λ j k h l. d j k h (omega arith)) (λ k l. e k (omega arith))) (eqb (nat queue n) v) refl
  where
    held : (k : ℕ) → k < suc n → (b : Bool) → eqb (nat queue k) v ≡ b → nat_abs (int a (nat queue k)) ≡ nat_abs (cond b s (pos 0))
    held k h b q = ap nat_abs (e k h) ∙ ap (λ (t : Bool). nat_abs (cond t s (pos 0))) q

    -- the share's own label stands last, so no other holds anything
    none : nat queue n ≡ v → (k : ℕ) → k < n → nat_abs (int a (nat queue k)) ≤ 0
    none q k h = omega (arith, held k (omega arith) false (ne_eqb (nat queue k) v (λ (r : nat queue k ≡ v). d k n h (omega arith) (r ∙ sym q))))

    go : load n queue a ≤ nat_abs s → (b : Bool) → eqb (nat queue n) v ≡ b → load n queue a + nat_abs (int a (nat queue n)) ≤ nat_abs s
    go rest true q = omega (arith, load_most n queue a 0 (none (eqb-true (nat queue n) v q)), held n (omega arith) true q)
    go rest false q = omega (arith, held n (omega arith) false q)

only_nonneg : (v : ℕ) (s : ℤ) (x : ℕ) → pos 0 ≤ℤ s → pos 0 ≤ℤ only_at v s x
only_nonneg v s x h = go (eqb x v)
  where
    go : (b : Bool) → pos 0 ≤ℤ cond b s (pos 0)
    go true = h
    go false = le_of_eq refl

-- what the shares of a block start from: none below zero, and all together no more than the weight of 48 labels
pub record Moderate (count : ℕ) (queue : List ℕ) (a : List ℤ) : Type 0 where
  pub nonneg : (k : ℕ) → k < count → pos 0 ≤ℤ int a (nat queue k)
  pub together : load count queue a ≤ 172800

pub moderate_small : {count : ℕ} {queue : List ℕ} {a : List ℤ} → Moderate count queue a → Small count queue a
moderate_small {count} {queue} {a} m k h = omega (arith, m.together, load_term count queue a k h)

-- ---- a block

module _ {p : Problem} {mark : List ℕ} {root count : ℕ} {at queue via up : List ℕ} {off : List ℤ} (lim : Limits p) (t : Tree (graph_of p mark) root count at queue via up off) where
  -- the shares can be eliminated
  pub shares_moderate : (joined : Bool) (other : ℕ) (s : Sums) → SumsInRange s → {before after : List ℤ}
      → Given count queue (λ x. cond joined (only_at other s.weight x) (int p.weight x)) before after → Moderate count queue after
  shares_moderate true other s i {after = after} g =
      record {
        nonneg = λ k h. rw (g.inside k h) (only_nonneg other s.weight (nat queue k) (le_trans (parts_le (omega arith)) i.weight_low));
        together = omega (arith, only_load count queue after other s.weight (block_listed lim t).distinct g.inside, total_small i);
      }
  shares_moderate false other s i {after = after} g =
      record {
        nonneg = λ k h. rw (g.inside k h) (le_trans (parts_le (omega arith)) ((block_range lim t).weight_low k h));
        together = omega (arith, load_most count queue after 3600 (λ k h. rw (g.inside k h) (weight_small (block_range lim t) k h)), (block_listed lim t).count_most);
      }

  -- what is left of both can be compared
  pub block_breakable : (held share : List ℤ) → length held ≡ 48 → Small count queue held → length share ≡ 48 → Moderate count queue share
      → Breakable count queue via (eliminated count queue up held) (eliminated count queue up share)
  block_breakable held share hl hs sl sm =
      record {
        count_most = (block_listed lim t).count_most;
        labels_in = (block_listed lim t).labels_in;
        gaps_in = λ k h l. omega (arith, (t.linked k h l).gap_in, lim.gaps_bound);
        held_most = λ k h. omega (arith, eliminated_small count queue up held (block_ordered lim t) hl hs k h);
        share_bound = λ k h.
            let load = eliminated_load count queue up share (block_ordered lim t) sl k h in
            parts_le (omega (arith, load, sm.together, parts_nat_abs (int (eliminated count queue up share) (nat queue k))));
      }

-- ---- what is found of a side

module _ {p : Problem} {mark : List ℕ} {root other : ℕ} {sign : ℤ} {r : Side} {work : Work} {held share : List ℤ} (lim : Limits p) (f : SideFound p mark root other sign r work held share) where
  pub sums_range : SumsInRange r.sums
  sums_range = block_sums lim f.tree r.sums f.weight f.wanted

  pub share_moderate : Moderate r.count work.queue f.share₁
  share_moderate = shares_moderate lim f.tree r.joined other r.sums sums_range f.shares

  -- a share only grows as those behind it hand on theirs, so none is below zero
  pub share_grows : (k : ℕ) → k < r.count → int f.share₁ (nat work.queue k) ≤ℤ int share (nat work.queue k)
  share_grows k h = rw f.share_is (eliminated_grows r.count work.queue work.up f.share₁ (block_ordered lim f.tree) f.share_size share_moderate.nonneg k h)

  pub share_nonneg : (k : ℕ) → k < r.count → pos 0 ≤ℤ int share (nat work.queue k)
  share_nonneg k h = le_trans (share_moderate.nonneg k h) (share_grows k h)

  pub side_breakable : IsSign sign → Breakable r.count work.queue work.via held share
  side_breakable one =
      rw (f.held_is, f.share_is)
      (block_breakable lim f.tree f.held₁ f.share₁ f.held_size (surplus_light lim f.tree sign r.sums one sums_range f.surplus) f.share_size share_moderate)

  pub first_in_range : IsSign sign → BreakInRange r.first
  first_in_range one = rw f.first (least_in_range p sign work held share (side_breakable one))
