-- Lines one after another: a text is cut into lines in one way.
use Rattle.std.proofs.Common.{◌≡◌, ℕ, ◌+◌, ◌^◌, ◌<◌, ◌≤◌, true, leb, ◌⊎◌, List, [], ◌∷◌, ◌++◌, length, get_or, drop, decimal, sym, refl, ap, ◌∙◌, subst, ⊎_elim, arith}
use Rattle.limits.specs.Ranges.{horizon}
use Rattle.limits.specs.declared.fault.Fault.{Fault}
use Rattle.limits.specs.declared.fault.ReadError.TheVariants.{Fault as AtFault}
use Rattle.scripts.proofs.Fronts.{line_parts, start_parts}
use Rattle.scripts.proofs.Numbers.{same_number}
use Rattle.scripts.specs.Lines.{command_text, line_text_of, script_text, valid_command, valid_line, valid_lines}
use Rattle.scripts.specs.Reads.{FirstBad, NoLine, NotRead, Reads, lines_of, script_fault_of, text_of}
use Rattle.scripts.specs.declared.line.Command.{Command}
use Rattle.scripts.specs.declared.line.Command.TheVariants.{Admit, Leave, Start, Wait}
use Rattle.scripts.specs.declared.line.Line.{Line}
use Rattle.scripts.specs.declared.script.Script.{Script}
use Rattle.std.proofs.lemmas.Fmt.{decimal_nonempty}
use Rattle.std.proofs.lemmas.List.{append_assoc, append-nil, flat_map_more, length-append, nil_from_length}
use Rattle.std.proofs.lemmas.Bool.{and_from, and_parts, leb-true}

byte : (n : ℕ) → leb n 255 ≡ true → n < 2 ^ 64
byte n e = let h = leb-true n 255 e in omega arith

-- a text begins with one command
same_command : (j k : Command) (r s : List ℕ) → valid_command j ≡ true → valid_command k ≡ true → command_text j ++ 10 ∷ r ≡ command_text k ++ 10 ∷ s → (j ≡ k) × (r ≡ s)
same_command (Admit x) (Admit y) r s v w e = let p = same_number 10 x y r s (omega arith) (byte x v) (byte y w) (ap (drop 2) e) in (ap (λ n. Admit n) p.0, p.1)
same_command (Admit x) (Leave y) r s v w e = absurd (omega (arith, ap (λ l. get_or l 0 0) e))
same_command (Admit x) (Start y b) r s v w e = absurd (omega (arith, ap (λ l. get_or l 0 0) e))
same_command (Admit x) Wait r s v w e = absurd (omega (arith, ap (λ l. get_or l 0 0) e))
same_command (Leave x) (Admit y) r s v w e = absurd (omega (arith, ap (λ l. get_or l 0 0) e))
same_command (Leave x) (Leave y) r s v w e = let p = same_number 10 x y r s (omega arith) (byte x v) (byte y w) (ap (drop 2) e) in (ap (λ n. Leave n) p.0, p.1)
same_command (Leave x) (Start y b) r s v w e = absurd (omega (arith, ap (λ l. get_or l 0 0) e))
same_command (Leave x) Wait r s v w e = absurd (omega (arith, ap (λ l. get_or l 0 0) e))
same_command (Start x a) (Admit y) r s v w e = absurd (omega (arith, ap (λ l. get_or l 0 0) e))
same_command (Start x a) (Leave y) r s v w e = absurd (omega (arith, ap (λ l. get_or l 0 0) e))
same_command (Start x a) (Start y b) r s v w e =
    let i = and_parts (leb x 255) (leb a 255) v in
    let j = and_parts (leb y 255) (leb b 255) w in
    let p = same_number 32 x y (decimal a ++ 10 ∷ r) (decimal b ++ 10 ∷ s) (omega arith) (byte x i.0) (byte y j.0) (ap (drop 2) (sym (start_parts x a r) ∙ e ∙ start_parts y b s)) in
    let q = same_number 10 a b r s (omega arith) (byte a i.1) (byte b j.1) p.1 in
    (λ i. Start (p.0 i) (q.0 i), q.1)
same_command (Start x a) Wait r s v w e = absurd (omega (arith, ap (λ l. get_or l 0 0) e))
same_command Wait (Admit y) r s v w e = absurd (omega (arith, ap (λ l. get_or l 0 0) e))
same_command Wait (Leave y) r s v w e = absurd (omega (arith, ap (λ l. get_or l 0 0) e))
same_command Wait (Start y b) r s v w e = absurd (omega (arith, ap (λ l. get_or l 0 0) e))
same_command Wait Wait r s v w e = (refl, ap (drop 2) e)

-- a text begins with one line
same_line : (l m : Line) (r s : List ℕ) → valid_line l ≡ true → valid_line m ≡ true → line_text_of l ++ r ≡ line_text_of m ++ s → (l ≡ m) × (r ≡ s)
same_line l m r s v w e =
    let i = and_parts (leb l.instant horizon) _ v in
    let j = and_parts (leb m.instant horizon) _ w in
    let hl = leb-true l.instant horizon i.0 in
    let hm = leb-true m.instant horizon j.0 in
    let p = same_number 32 l.instant m.instant _ _ (omega arith) (omega arith) (omega arith) (sym (line_parts l r) ∙ e ∙ line_parts m s) in
    let q = same_command l.command m.command r s i.1 j.1 p.1 in
    (λ k. record { instant = p.0 k; command = q.0 k }, q.1)

line_some : (l : Line) → valid_line l ≡ true → 0 < length (line_text_of l)
line_some l v =
    let h = leb-true l.instant horizon (and_parts (leb l.instant horizon) _ v).0 in
    omega (arith, decimal_nonempty l.instant (omega arith), length-append (decimal l.instant) (32 ∷ (command_text l.command ++ 10 ∷ [])))

-- the text that begins as another's lines: those lines, and others for the rest
prefix : (good ls : List Line) (rest : List ℕ) → valid_lines good ≡ true → valid_lines ls ≡ true → script_text good ++ rest ≡ script_text ls → (more : List Line) × (ls ≡ good ++ more) × (rest ≡ script_text more)
prefix [] ls rest v w e = (ls, refl, e)
prefix (g ∷ good) [] rest v w e =
    absurd (omega (arith, line_some g (and_parts (valid_line g) _ v).0, ap length e, length-append (line_text_of g ++ script_text good) rest, length-append (line_text_of g) (script_text good)))
prefix (g ∷ good) (l ∷ ls) rest v w e =
    let i = and_parts (valid_line g) _ v in
    let j = and_parts (valid_line l) _ w in
    let p = same_line g l (script_text good ++ rest) (script_text ls) i.0 j.0 (sym (append_assoc (line_text_of g) (script_text good) rest) ∙ e) in
    let q = prefix good ls rest i.1 j.1 p.1 in
    (q.0, (λ k. sym p.0 k ∷ q.1 k), q.2)

no_text : (ls : List Line) → valid_lines ls ≡ true → [] ≡ script_text ls → ls ≡ []
no_text [] v e = refl
no_text (l ∷ ls) v e = absurd (omega (arith, line_some l (and_parts (valid_line l) _ v).0, ap length e, length-append (line_text_of l) (script_text ls)))

valid_append : (ls ms : List Line) → valid_lines (ls ++ ms) ≡ true → valid_lines ms ≡ true
valid_append [] ms v = v
valid_append (l ∷ ls) ms v = valid_append ls ms (and_parts (valid_line l) _ v).1

valid_push : (ls : List Line) (l : Line) → valid_lines ls ≡ true → valid_line l ≡ true → valid_lines (ls ++ l ∷ []) ≡ true
valid_push [] l v w = and_from _ _ w refl
valid_push (m ∷ ls) l v w = let b = and_parts (valid_line m) _ v in and_from _ _ b.0 (valid_push ls l b.1 w)

pub reads : (bytes : List ℕ) (s : Script) → bytes ≡ text_of s → Reads bytes s
reads bytes s e = record {
  written = e;
  only = λ t f.
      let p = prefix (lines_of s) (lines_of t) [] s.ok t.ok (append-nil (text_of s) ∙ sym e ∙ f) in
      p.1 ∙ ap (λ ms. lines_of s ++ ms) (no_text p.0 (valid_append (lines_of s) p.0 (ap valid_lines (sym p.1) ∙ t.ok)) p.2) ∙ append-nil (lines_of s);
}

-- no script has bytes with a bad line
pub no_script : (bytes : List ℕ) (place : ℕ) → FirstBad bytes place → (s : Script) → bytes ≡ text_of s → ⊥
no_script bytes place b s e =
    let p = prefix b.good (lines_of s) b.rest b.valid s.ok (sym b.split ∙ e) in
    next p.0 p.1 p.2
  where
    next : (more : List Line) → lines_of s ≡ b.good ++ more → b.rest ≡ script_text more → ⊥
    next [] is rest = omega (arith, b.some, ap length rest)
    next (m ∷ more) is rest =
        ⊎_elim
        (λ last. omega (arith, s.few, s.lines.ok.0, ap length is, length-append b.good (m ∷ more), b.counted))
        (λ none. none m (script_text more) (and_parts (valid_line m) _ (valid_append b.good (m ∷ more) (ap valid_lines (sym is) ∙ s.ok))).0 rest)
        b.bad

-- the bytes are cut into lines up to the rest
pub record Cutting (bytes rest : List ℕ) (ls : List Line) : Type 0 where
  pub split : bytes ≡ script_text ls ++ rest
  pub valid : valid_lines ls ≡ true
  pub few : length ls ≤ 1024

pub cutting_none : (bytes : List ℕ) (ls : List Line) → ls ≡ [] → Cutting bytes bytes ls
cutting_none bytes ls e = record { split = ap (λ ms. script_text ms ++ bytes) (sym e); valid = ap valid_lines e; few = omega (arith, ap length e) }

module _ (bytes rest : List ℕ) (ls : List Line) (c : Cutting bytes rest ls) where
  pub cutting_more : (l : Line) (after : List ℕ) (ms : List Line) → length ls < 1024 → valid_line l ≡ true → rest ≡ line_text_of l ++ after → ms ≡ ls ++ l ∷ [] → Cutting bytes after ms
  cutting_more l after ms h v e f = record {
    split = c.split ∙ ap (λ t. script_text ls ++ t) e ∙ sym (append_assoc (script_text ls) (line_text_of l) after) ∙ ap (λ t. t ++ after) (flat_map_more line_text_of [] ls l) ∙ ap (λ xs. script_text xs ++ after) (sym f);
    valid = ap valid_lines f ∙ valid_push ls l c.valid v;
    few = omega (arith, ap length f, length-append ls (l ∷ []));
  }

  pub cutting_all : length rest ≡ 0 → bytes ≡ script_text ls
  cutting_all z = c.split ∙ ap (λ t. script_text ls ++ t) (nil_from_length rest z) ∙ append-nil (script_text ls)

  pub cutting_shrinks : (l : Line) (after : List ℕ) → valid_line l ≡ true → rest ≡ line_text_of l ++ after → length after < length rest
  cutting_shrinks l after v e = omega (arith, ap length e, length-append (line_text_of l) after, line_some l v)

  pub cutting_bad : (f : Fault) (place : ℕ) → f ≡ script_fault_of place → place ≡ length ls + 1 → 0 < length rest → (place ≡ 1025) ⊎ NoLine rest → NotRead bytes (AtFault f)
  cutting_bad f place is counted some bad =
      let at : place ≡ f.place = ap (λ (x : Fault). x.place) (sym is) in
      let first : FirstBad bytes place = record { good = ls; rest = rest; split = c.split; valid = c.valid; within = c.few; counted = counted; some = some; bad = bad } in
      (is ∙ ap script_fault_of at, subst (FirstBad bytes) at first, no_script bytes place first)
