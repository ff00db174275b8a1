-- The machine values of a `Handle`. Assumes `Logic`.
use Rattle.std.proofs.Common.{◌≡◌, ℕ, List, [], ◌∷◌, ◌++◌, refl, subst, Option, Some, None, IsSome, sym}
use mathlib.Core.Bool.{Bool, true, ◌&&◌}
use lib.Dec.{T}
use seplogic.Ra.Ura.{Ura}
use mir.Syntax.{impl, tnil, dnil}
use mir.Val.{Val, vptr, vbool, vstruct, vcons, vnil, of_list, has_ty, WT}
use base.Logic.{never, fst∗}
use types.Logic.{Logic, sem}
use types.Kit.{Item, Goal, Seq, Step, step, ‵, ◌$◌, move, drop, fsplit, fjoin, fpick, fpack, feq_i, feq_l}
use denote.RattleType.{RattleType, Valss}
use denote.Builtin.{RawPtr, bool}
use denote.RawPtr.{Ptr, block_ptr, null_ptr, ptr_val, in_a_block}
use denote.Steps.{nothing}
use denote.Param.{layout}
use denote.Param.Laws.{Laws}
use denote.Struct.Struct.{within}
use denote.Struct.Owning.{shape}
use Rattle.core.specs.declared.alloc.Allocator.{Ghosts}
use Rattle.core.proofs.alloc.Calls.{Al, handle_tells}
use Rattle.core.proofs.cell.Inside.{Good}
use Rattle.std_alloc.proofs.ResultValues.{and_tt}
use Rattle.std.specs.contracts.alloc.Global as global
use Rattle.std.specs.contracts.impls.GlobalAllocator.TheImpl as allocator
use Rattle.std.proofs.alloc.Global.TheLaws as global_laws
use Rattle.bulwynef_c.specs.contracts.object.Object as object
use Rattle.bulwynef_c.specs.declared.object.Object.{Object}
use Rattle.bulwynef_c.specs.contracts.handle.Handle as handle
use Rattle.bulwynef_c.specs.Owned.{owned}
use Rattle.std_alloc.specs.Box.Ownership.{box_owns}
use denote.Memory.{lone}
use mir.Raw.{raw as bare}

abbrev pub Z : RattleType
Z = global.the_row

abbrev pub R : RattleType
R = object.the_row

abbrev pub LZ : Laws Z
LZ = global_laws.the_row_laws

abbrev pub g : Ghosts Z.Denot
g = allocator.ghosts

abbrev pub al : Al
al = record { row = Z; laws = LZ; g = g; d = impl [] tnil dnil; drops = impl [] tnil dnil }

abbrev pub Handle : RattleType
Handle = handle.the_row

abbrev pub three : Val → Val → Bool → Val
three u v x = vstruct (vcons u (vcons v (vcons (vbool x) vnil)))

pub handle_good : (b o : ℕ) (h : Val) (x : Bool) → Good (layout Z) h → T (has_ty (layout Z) h && true) × WT (three (vptr b o) h x)
handle_good b o h x fits = (and_tt (has_ty (layout Z) h) fits.0, (tt, (fits.1, (tt, tt))))

module _ {M : Type 1} {𝓤 : Ura M} {𝓛 : Logic 𝓤} {K : Type 0} {Γ : List (Item 𝓤)} {G : Goal 𝓤 𝓛.H} where
  -- a handle of the fields and of what they own
  pub handle_in : K → (p : Ptr) (h : Val) (a : Z.Denot) (x : Bool) (d : Option Object)
      → Step K 𝓛 (‵ (Handle.own_val (record { at = p; alloc = a; is_open = x; value = d }) (three (ptr_val p) h x ∷ [])) ∷ Γ) G (‵ (owned (g.dealloc_token a) x p d) ∷ ‵ (Z.own_val a (h ∷ [])) ∷ Γ) G
  handle_in t p h a x d = step (λ s. let v : Val = three (ptr_val p) h x in
      nothing t $ feq_i t (List Val) (vbool x ∷ []) (vbool x ∷ []) refl $ fjoin t $ move t (2 ∷ 0 ∷ []) $ fjoin t $ feq_i t (List Val) (ptr_val p ∷ []) (ptr_val p ∷ []) refl $ fjoin t $ feq_i t (List Val) (v ∷ []) (v ∷ []) refl $ fjoin t $
      fpack t (Valss (RawPtr ∷ Z ∷ bool ∷ [])) (within (shape handle.the_type) (p, (((tt, tt), tt), (x, tt))) (v ∷ [])) (ptr_val p ∷ [], (h ∷ [], (vbool x ∷ [], tt))) $ fjoin t $ s)

  -- an open handle's fields, and its block
  held_out : K → (a : Z.Denot) (ok : Bool) (p : Ptr) (d : Option Object) → IsSome d
      → ((b o : ℕ) (x : Object) → p ≡ block_ptr b o → ok ≡ true → d ≡ Some x → Seq K 𝓛 (‵ (box_owns (g.dealloc_token a) R (block_ptr b o) x) ∷ Γ) G)
      → Seq K 𝓛 (‵ (owned (g.dealloc_token a) ok p d) ∷ Γ) G
  held_out t a ok p None is k = absurd (subst T (sym is) tt)
  held_out t a ok p (Some x) is k =
      fsplit t $ feq_l t (λ flag. in_a_block t p (λ q. box_owns (g.dealloc_token a) R q x) (fst∗ 𝓤 (never 𝓤) (sem 𝓛 (g.dealloc_token a (bare (lone R.mir)) null_ptr))) (λ b o e. k b o x e flag refl))

module _ {M : Type 1} {𝓤 : Ura M} {𝓛 : Logic 𝓤} {K : Type 0} {Γ : List (Item 𝓤)} {G : Goal 𝓤 𝓛.H} where
  pub handle_out : K → (d : Handle.Denot) (vs : List Val) → IsSome d.value
      → ((b o : ℕ) (h : Val) (x : Object) → d.value ≡ Some x → vs ≡ three (vptr b o) h true ∷ [] → Good (layout Z) h
      → Seq K 𝓛 (‵ (box_owns (g.dealloc_token d.alloc) R (block_ptr b o) x) ∷ ‵ (Z.own_val d.alloc (h ∷ [])) ∷ Γ) G)
      → Seq K 𝓛 (‵ (Handle.own_val d vs) ∷ Γ) G
  handle_out t d vs is k =
      fsplit t $ fpick t (λ vss. fsplit t $ feq_l t (λ ev. fsplit t $ feq_l t (λ ep. fsplit t $ handle_tells al t d.alloc vss.1.0 (λ h ea fits. move t (1 ∷ []) $ fsplit t $ feq_l t (λ eb. drop t $ move t (1 ∷ []) $
      held_out t d.alloc d.is_open d.at d.value is (λ b o x e flag some. k b o h x some
      (subst (λ (y : Bool). vs ≡ vstruct (of_list (vptr b o ∷ h ∷ vbool y ∷ [])) ∷ []) flag
      (subst (λ (p : Ptr). vs ≡ vstruct (of_list (ptr_val p ∷ h ∷ vbool d.is_open ∷ [])) ∷ []) e
      (subst (λ (bs : List Val). vs ≡ vstruct (of_list (ptr_val d.at ∷ h ∷ (bs ++ []))) ∷ []) eb
      (subst (λ (ws : List Val). vs ≡ vstruct (of_list (ptr_val d.at ∷ (ws ++ (vss.1.1.0 ++ [])))) ∷ []) ea
      (subst (λ (ps : List Val). vs ≡ vstruct (of_list (ps ++ (vss.1.0 ++ (vss.1.1.0 ++ [])))) ∷ []) ep ev))))) fits))))))
