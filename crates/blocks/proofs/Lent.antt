-- From what a feed gives to what the lent bytes hold.
use mathlib.Core.Path.{◌≡◌, refl, sym, ap, subst, ◌∙◌}
use mathlib.Core.Bool.{Bool, true, false, cond, ◌&&◌}
use mathlib.Core.List.{List, ◌++◌}
use Prim.Native.Nat.{ℕ, ◌+◌, ◌≤◌}
use native.Mathlib.Omega.{arith}
use lib.Dec.{eqb, leb}
use lib.ListN.{length, length-append}
use lib.Seq.{drop_at}
use borrow.Author.Tests.{eqb-true, eq-eqb, ne_eqb, leb-true}
use Rattle.units.proofs.Bools.{both}
use Rattle.states.specs.declared.Record.{Record}
use Rattle.states.specs.declared.State.{State}
use Rattle.packing.specs.Packing.{packed, page_in, is_packing, unpack_of}
use Rattle.packing.proofs.Packing.{packing-length}
use Rattle.fits.proofs.Lent.{packing-small, page-long}
use Rattle.lines.specs.Cutting.{held_room}
use Rattle.script_log.specs.Row.{longest_row}
use Rattle.play.specs.declared.Bench.{Bench}
use Rattle.feed.specs.declared.Run.{Run}
use Rattle.feed.specs.Feed.{Start, Stand, feed_of, last_of, Stands}
use Rattle.feed.proofs.Feeds.{feed-feeds}
use Rattle.blocks.specs.Blocks.{Lending, lent_run, lent_stand, lent_after, block_refusal, played_from, played_block, played_last, BlockDone, LeavesBlock, LeavesLast}
use Rattle.blocks.proofs.Lines.{Fitting, feed-fits, last_fits, last-used}

-- ---- what a call that is not refused has shown
pub record Taken (state : List ℕ) (room used : ℕ) (roomy : Bool) : Type 0 where
  pub packing : is_packing state ≡ true
  pub hold : room ≡ held_room
  pub within : used ≤ held_room
  pub space : roomy ≡ true

pub taken : (state : List ℕ) (room used : ℕ) (roomy : Bool) → block_refusal state room used roomy ≡ 0 → Taken state room used roomy
unfolding block_refusal
taken state room used roomy = go (is_packing state) refl (eqb room held_room && (leb used held_room && roomy)) refl
  where
    go : (a : Bool) → is_packing state ≡ a → (b : Bool) → (eqb room held_room && (leb used held_room && roomy)) ≡ b → ◌≡◌ {A = ℕ} (cond a (cond b 0 5) 3) 0 → Taken state room used roomy
    go true p true q e =
        let k = both (eqb room held_room) (leb used held_room && roomy) q in
        let l = both (leb used held_room) roomy k.1 in
        record { packing = p; hold = eqb-true room held_room k.0; within = leb-true used held_room l.0; space = l.1 }
    go true p false q e = absurd (omega arith)
    go false p b q e = absurd (omega arith)

-- ---- what is lent fits, before and after
module _ (x : Lending) (p : is_packing x.state ≡ true) where
  pub whole : length x.state ≡ 272
  whole = packing-length x.state p

  pub fitting : Fitting (lent_stand x)
  fitting = record { small = packing-small x.state p; long = page-long x.state whole }

-- where the bench stands that the code makes of what is lent
abbrev pub laid : Lending → State → List ℕ → Stand
laid x st page = record { run = lent_run x.used x.line; state = st; held = x.held; page = page; cells = x.cells; wear = x.wear; log = x.log }

laid_out : (x : Lending) {st : State} {page : List ℕ} → st ≡ unpack_of x.state → page ≡ page_in x.state → laid x st page ≡ lent_stand x
laid_out x u p = rw (u, p)

-- the bytes after: the state packed over the page data that came back
packed-back : {t : Stand} {r : Run} {b : Bench} {held log : List ℕ} (head page : List ℕ) {state : List ℕ} → length head ≡ 16 → page ≡ b.page.now → Stands t r b held log → state ≡ packed b.state (page_in (head ++ page))
    → state ≡ (lent_after t).state
packed-back {t} {b = b} head page n e g k = k ∙ ap (packed b.state) (drop_at head page 16 n ∙ e ∙ g.page') ∙ ap (λ (z : State). packed z t.page) g.state'

packs-back : {t : Stand} {r : Run} {b : Bench} {held log : List ℕ} (head page : List ℕ) → length head ≡ 16 → page ≡ b.page.now → Stands t r b held log → Fitting t → (b.state.bp ≤ 15) × (length (head ++ page) ≡ 272)
packs-back head page n e g f = (rw g.state' f.small.level, length-append head page ∙ omega (arith, n, ap length (e ∙ g.page'), f.long))

-- ---- a call that goes on
module _ (x : Lending) (t : Stand) where
  abbrev pub done : BlockDone
  done = record { number = 0; after = lent_after t; taken = t.run.at; written = t.run.filled }

  pub played-done : (n : ℕ) → n ≡ 0 → played_from x n t ≡ done
  played-done n e = rw (eq-eqb n 0 e)

  played-refused : (n : ℕ) → (n ≡ 0 → ⊥) → played_from x n t ≡ record { number = n; after = x; taken = 0; written = 0 }
  played-refused n e = rw (ne_eqb n 0 e)

-- ---- a block
module _ (rec : Record) (strict : Bool) (script : List ℕ) (x : Lending) where
  abbrev said : ℕ
  said = block_refusal x.state (length x.held) x.used true

  -- refused
  pub refused-block : {n : ℕ} → n ≡ said → (n ≡ 0 → ⊥) → LeavesBlock (played_block rec strict script x) n x.state x.cells x.wear x.held x.used x.line x.log 0 0
  unfolding played_block
  refused-block {n} e k =
      rw (played-refused x (feed_of rec strict script (lent_stand x)) said (λ z. k (e ∙ z)))
      (record { number_is = e; state-is = refl; cells_are = refl; wear-is = refl; held-is = refl; used-is = refl; line-is = refl; log_is = refl; taken_is = refl; written_is = refl })

  module _ {n : ℕ} (e : n ≡ said) (z : n ≡ 0) where
    shown : Taken x.state (length x.held) x.used true
    shown = taken x.state (length x.held) x.used true (sym e ∙ z)

    pub block-packing : is_packing x.state ≡ true
    block-packing = shown.packing

    pub block-whole : length x.state ≡ 272
    block-whole = whole x block-packing

    pub block_start : Start (lent_run x.used x.line) x.held script x.log
    block_start = record { inside = omega arith; hold = shown.hold; used = shown.within; within = omega arith }

    module _ {st : State} {lent : List ℕ} (u : st ≡ unpack_of x.state) (m : lent ≡ page_in x.state) {r : Run} {c : Bench} {held log : List ℕ} (s : Stands (feed_of rec strict script (laid x st lent)) r c held log) where
      abbrev fed : Stand
      fed = feed_of rec strict script (lent_stand x)

      stands-fed : Stands fed r c held log
      stands-fed = subst (λ (q : Stand). Stands (feed_of rec strict script q) r c held log) (laid_out x u m) s

      fits : Fitting fed
      fits = feed-fits rec strict script (lent_stand x) (fitting x block-packing)

      pub block-used : r.used ≤ held_room
      block-used = rw (ap (λ (q : Run). q.used) stands-fed.run') (feed-feeds rec strict script (lent_stand x) block_start).used

      module _ (head page : List ℕ) (l : length head ≡ 16) (p : page ≡ c.page.now) where
        pub block-packs : (c.state.bp ≤ 15) × (length (head ++ page) ≡ 272)
        block-packs = packs-back head page l p stands-fed fits

        pub block-leaves : {state cells wear : List ℕ} → state ≡ packed c.state (page_in (head ++ page)) → cells ≡ c.array.now → wear ≡ c.wear.now
            → LeavesBlock (played_block rec strict script x) 0 state cells wear held r.used r.number log r.at r.filled
        unfolding played_block
        block-leaves h a w =
            let g = stands-fed in
            rw (played-done x fed said (sym e ∙ z))
            (record {
              number_is = refl;
              state-is = packed-back head page l p g h;
              cells_are = a ∙ g.cells';
              wear-is = w ∙ g.wear';
              held-is = g.held';
              used-is = ap (λ (q : Run). q.used) g.run';
              line-is = ap (λ (q : Run). q.number) g.run';
              log_is = g.log';
              taken_is = ap (λ (q : Run). q.at) g.run';
              written_is = ap (λ (q : Run). q.filled) g.run';
            })

-- ---- the text's end
module _ (rec : Record) (strict : Bool) (x : Lending) where
  abbrev said-last : ℕ
  said-last = block_refusal x.state (length x.held) x.used (leb longest_row (length x.log))

  -- refused
  pub refused-last : {n : ℕ} → n ≡ said-last → (n ≡ 0 → ⊥) → LeavesLast (played_last rec strict x) n x.state x.cells x.wear x.used x.line x.log 0
  unfolding played_last
  refused-last {n} e k =
      rw (played-refused x (last_of rec strict (lent_stand x)) said-last (λ z. k (e ∙ z)))
      (record { number_is = e; state-is = refl; cells_are = refl; wear-is = refl; used-is = refl; line-is = refl; log_is = refl; written_is = refl })

  module _ {n : ℕ} (e : n ≡ said-last) (z : n ≡ 0) where
    shown-last : Taken x.state (length x.held) x.used (leb longest_row (length x.log))
    shown-last = taken x.state (length x.held) x.used (leb longest_row (length x.log)) (sym e ∙ z)

    pub last-packing : is_packing x.state ≡ true
    last-packing = shown-last.packing

    pub last-whole : length x.state ≡ 272
    last-whole = whole x last-packing

    pub last-start : (length x.held ≡ held_room) × (x.used ≤ held_room) × (0 + longest_row ≤ length x.log)
    last-start = (shown-last.hold, shown-last.within, omega (arith, leb-true longest_row (length x.log) shown-last.space))

    module _ {st : State} {lent : List ℕ} (u : st ≡ unpack_of x.state) (m : lent ≡ page_in x.state) {r : Run} {c : Bench} {log : List ℕ} (s : Stands (last_of rec strict (laid x st lent)) r c x.held log) where
      abbrev ended : Stand
      ended = last_of rec strict (lent_stand x)

      stands-ended : Stands ended r c x.held log
      stands-ended = subst (λ (q : Stand). Stands (last_of rec strict q) r c x.held log) (laid_out x u m) s

      ended-fits : Fitting ended
      ended-fits = last_fits rec strict (lent_stand x) (fitting x last-packing)

      pub last-used-up : r.used ≤ held_room
      last-used-up = omega (arith, ap (λ (q : Run). q.used) stands-ended.run', last-used rec strict (lent_stand x))

      module _ (head page : List ℕ) (l : length head ≡ 16) (p : page ≡ c.page.now) where
        pub last-packs : (c.state.bp ≤ 15) × (length (head ++ page) ≡ 272)
        last-packs = packs-back head page l p stands-ended ended-fits

        pub last-leaves : {state cells wear : List ℕ} → state ≡ packed c.state (page_in (head ++ page)) → cells ≡ c.array.now → wear ≡ c.wear.now
            → LeavesLast (played_last rec strict x) 0 state cells wear r.used r.number log r.filled
        unfolding played_last
        last-leaves h a w =
            let g = stands-ended in
            rw (played-done x ended said-last (sym e ∙ z))
            (record {
              number_is = refl;
              state-is = packed-back head page l p g h;
              cells_are = a ∙ g.cells';
              wear-is = w ∙ g.wear';
              used-is = ap (λ (q : Run). q.used) g.run';
              line-is = ap (λ (q : Run). q.number) g.run';
              log_is = g.log';
              written_is = ap (λ (q : Run). q.filled) g.run';
            })
